-- The kit's reader takes sixteen digits, and no other text of digits.
use Rattle.std.proofs.Common.{sym, ◌∙◌}
use Rattle.block_text.proofs.Digits.{eight_read, none_read}
use Rattle.block_text.proofs.block_bytes.Goals as goal

pub returns-in-Ok : goal.returns-in-Ok
returns-in-Ok c = eight_read c.args.digits.now c.decode_to_slice.new.out c.decode_to_slice.result (sym (c.if-not-is_hex.ensures)) c.decode_to_slice.ensures.value c.in-Ok.is

pub returns-in-Err : goal.returns-in-Err
returns-in-Err c = none_read c.args.digits.now c.decode_to_slice.new.out c.decode_to_slice.result (sym (c.if-not-is_hex.ensures)) c.decode_to_slice.ensures.value _ c.in-Err.is
