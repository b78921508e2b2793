-- Packets given by their lengths and their joined bytes, and the blocks of them all.
use Rattle.std.specs.Prelude.{◌≡◌, ℕ, Bool, true, false, if◌then◌else◌, List, [], ◌∷◌, map, length, take, drop, sum, ◌==◌}
use Rattle.std.specs.List.{flat_map}
use Rattle.block.specs.declared.Block.{Block}
use Rattle.packet.specs.Format.{is_packet_length, packet_blocks}

-- the packets, each as long as its length says
unfoldable pub packets_of : List ℕ → List ℕ → List (List ℕ)
packets_of [] bytes = []
packets_of (n ∷ lengths) bytes = take n bytes ∷ packets_of lengths (drop n bytes)

-- their blocks, packet after packet
unfoldable pub all_packet_blocks : List ℕ → List ℕ → List Block
all_packet_blocks lengths bytes = flat_map packet_blocks (packets_of lengths bytes)

-- may each packet have so many bytes?
abbrev pub all_packet_lengths : List ℕ → Bool
all_packet_lengths [] = true
all_packet_lengths (n ∷ lengths) = if is_packet_length n then all_packet_lengths lengths else false

-- lengths of packets that add up to so many bytes
abbrev pub are_lengths : List ℕ → ℕ → Bool
are_lengths lengths bytes = if all_packet_lengths lengths then sum lengths == bytes else false

-- So lengths and bytes are cut into packets of just these lengths, and nothing is left over.
abbrev pub CutWhole : List ℕ → List ℕ → Type 0
CutWhole lengths bytes =
    are_lengths lengths (length bytes) ≡ true →
    (map length (packets_of lengths bytes) ≡ lengths) × (flat_map (λ p. p) (packets_of lengths bytes) ≡ bytes)
