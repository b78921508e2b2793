use Rattle.std.proofs.Common.{◌≡◌, [], ◌∙◌, arith, rules}
use Rattle.std.proofs.lemmas.List.{flat_map_more}
use Rattle.numbers.specs.Range.{slots}
use Rattle.numbers.specs.Walk.{numbers_between}
use Rattle.numbers.proofs.Walks.{walk_end}
use Rattle.calendar.proofs.Facts.{entries_length}
use Rattle.calendar.specs.Entries.{entries_of}
use Rattle.listing.specs.Lines.{client_line, listing_of}
use Rattle.listing.proofs.Lengths.{short_listing}
use Rattle.text_out.specs.Wrote.{Puts}
use Rattle.text_out.proofs.Laid.{puts_more, puts_text, puts_whole, wrote_as}
use Rattle.listing.proofs.listing.Goals as goal

pub loop-client-preserved : goal.loop-client-preserved
loop-client-preserved c =
    let line = client_line (entries_of c.args.calendar.now) in
    record {
      same = c.put_client.ensures.same ∙ c.loop-client.invariant.same;
      so_far = puts_text (flat_map_more line [] c.loop-client.yielded c.in-Some.client) (puts_more c.loop-client.invariant.so_far c.put_client.ensures.puts);
    }

pub returns-clause-wrote : goal.returns-clause-wrote
returns-clause-wrote c =
    let es = entries_of c.args.calendar.now in
    let all : c.loop-client.yielded ≡ numbers_between 1 slots =
    walk_end 1 slots (c.into_iter-client-iterator.ensures.into_iter_gives ∙ c.all-client-items.ensures) c.loop-client.yielded _ c.loop-client.yielded_by _ _ c.in-None.is c.next.ensures.steps in
    let puts : Puts 0 (listing_of es) c.args.out.now c.loop-client.text.places.now c.loop-client.text.len =
    rw (all, c.new-text.ensures.places, c.new-text.ensures.empty) at c.loop-client.invariant.so_far in
    let short = short_listing es (entries_length c.args.calendar.now) in
    wrote_as (puts_whole (omega arith) puts) (search rules) c.finish.ensures.value
