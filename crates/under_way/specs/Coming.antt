-- Which block goes on with the frame that comes.
use Rattle.std.specs.Prelude.{◌+◌, Bool, if◌then◌else◌, List, [], ◌∷◌, ◌++◌, length, Some, None, Option, Ok, Err, Result, ◌==◌}
use Rattle.block.specs.declared.Block.{Block}
use Rattle.block.specs.declared.Class.{Class}
use Rattle.block.specs.Classes.{class_of, is_data, is_end_of}
use Rattle.frame.specs.Places.{is_data_place}
use Rattle.under_way.specs.declared.incoming.Misfit.{Misfit}
use Rattle.under_way.specs.declared.incoming.Misfit.TheVariants.{OtherClass, OtherPlace}

-- an end that carries seven bytes
abbrev pub is_full_end : Class → Bool
is_full_end c = is_end_of 7 c

-- whether a data block goes on with these blocks
abbrev pub grow_answer : List Block → Block → Result Unit Misfit
grow_answer here b = if is_data (class_of b) then (if is_data_place (length here + 1) then Ok tt else Err OtherPlace) else Err OtherClass

-- whether an end makes these blocks a whole frame
abbrev pub finish_answer : List Block → Block → Result Unit Misfit
finish_answer here b = if is_full_end (class_of b) then (if length here == 991 then Ok tt else Err OtherPlace) else Err OtherClass

-- the blocks so far, with this one behind them if it was taken
abbrev pub blocks_after : Result Unit Misfit → List Block → Block → List Block
blocks_after (Ok u) here b = here ++ (b ∷ [])
blocks_after (Err e) here b = here

-- the frame, if all its blocks are here
abbrev pub frame_if_whole : List Block → Option (List Block)
frame_if_whole here = if length here == 992 then Some here else None
