use Rattle.std.proofs.Common.{◌≡◌, ℕ, ◌<◌, ◌≤◌, true, length, Ok, Result, sym, ap, ◌∙◌, arith, rules}
use Rattle.refusal.specs.declared.Refusal.{Refusal}
use Rattle.message.specs.Kinds.{block_count_of}
use Rattle.message.specs.Values.{lawful}
use Rattle.message.proofs.Laws.{laws}
use Rattle.message.proofs.Writes.{answer_short, answer_ok, written_short, written_ok}
use Rattle.message.proofs.write.Goals as goal

pub returns-then-not-lawful : goal.returns-then-not-lawful
returns-then-not-lawful c = record { answer = search rules; output = search rules; laws = laws }

pub returns-then-output-blocks : goal.returns-then-output-blocks
returns-then-output-blocks c =
    let e : lawful c.args.kind c.args.values.now ≡ true = sym c.if-not-lawful.ensures in
    let h : length c.args.output.now < block_count_of c.args.kind = omega arith in
    record {
      answer = answer_short c.args.kind c.args.values.now c.args.output.now e h;
      output = written_short c.args.kind c.args.values.now c.args.output.now e h;
      laws = laws;
    }

pub returns : goal.returns
returns c =
    let e : lawful c.args.kind c.args.values.now ≡ true = sym c.if-not-lawful.ensures in
    let n : c.blocks-blocks.result ≡ block_count_of c.args.kind = c.blocks-blocks.ensures in
    let h : block_count_of c.args.kind ≤ length c.args.output.now = omega arith in
    record {
      answer = ap {B = Result ℕ Refusal} (λ (m : ℕ). Ok m) n ∙ answer_ok c.args.kind c.args.values.now c.args.output.now e h;
      output = c.write_blocks.ensures ∙ written_ok c.args.kind c.args.values.now c.args.output.now e h;
      laws = laws;
    }
