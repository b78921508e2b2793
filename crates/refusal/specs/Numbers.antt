-- The number of each cause of refusal.
use Rattle.std.specs.Prelude.{ℕ}
use Rattle.refusal.specs.declared.Refusal.{Refusal}
use Rattle.refusal.specs.declared.Refusal.TheVariants.{MarkNotAllowed, FormBroken, OutOfRange, SlotTwice, ClientTwice, PacketLength, NoFreePlace, BlockLimit, MessageWaits, MessageInvalid, NoPacket, OutputTooShort}

abbrev pub number_of : Refusal → ℕ
number_of MarkNotAllowed = 1
number_of FormBroken = 2
number_of OutOfRange = 3
number_of SlotTwice = 4
number_of ClientTwice = 5
number_of PacketLength = 6
number_of NoFreePlace = 7
number_of BlockLimit = 8
number_of MessageWaits = 9
number_of MessageInvalid = 10
number_of NoPacket = 11
number_of OutputTooShort = 12
