-- The worked examples that are proved from the definitions.
use Rattle.std.specs.Prelude.{◌≡◌, ℕ, List, [], ◌∷◌, ◌++◌, map}
use Rattle.std.specs.Option.{option_to_list}
use Rattle.field.specs.Bytes.{byte_arith}
use Rattle.field.specs.DoubledFields.{doubled_bytes, doubled_residues}
use Rattle.field.specs.Residues.{residue_arith}
use Rattle.polynomial.specs.Interpolation.{restored}
use Rattle.polynomial.specs.PairKey.{pair_key}
use Rattle.polynomial.specs.Seat.{seat}
use Rattle.polynomial.specs.Share.{share, master_key}

-- codes that the definitions give, and the codes that they should be
pub record Example : Type 0 where
  pub given : List ℕ
  pub wanted : List ℕ

-- of fields, and of keys from shares
abbrev pub examples : List Example
examples =
    -- bytes: hex 57 times 83 is c1
    record { given = byte_arith.product 0x57 0x83 ∷ []; wanted = 0xc1 ∷ [] }
    -- bytes: the inverse of hex 53 is ca
    ∷ record { given = option_to_list (byte_arith.inverse 0x53); wanted = 0xca ∷ [] }
    -- residues: the inverse of 2 is 129
    ∷ record { given = option_to_list (residue_arith.inverse 2); wanted = 129 ∷ [] }
    -- doubled residues: 257, which is w, squared is 3, and its inverse is 22,102
    ∷ record { given = doubled_residues.product 257 257 ∷ []; wanted = 3 ∷ [] }
    ∷ record { given = option_to_list (doubled_residues.inverse 257); wanted = 22102 ∷ [] }
    -- doubled bytes: hex 100, which is w, squared is 120
    ∷ record { given = doubled_bytes.product 0x100 0x100 ∷ []; wanted = 0x120 ∷ [] }
    -- residues, t = 1, m = 1: kiosk 2 with the share 19 29 derives 106 for kiosk 3, and kiosk 3 with the share 26 40 derives 106 for kiosk 2
    ∷ record { given = pair_key residue_arith 1 1 (19 ∷ 29 ∷ []) 3; wanted = 106 ∷ [] }
    ∷ record { given = pair_key residue_arith 1 1 (26 ∷ 40 ∷ []) 2; wanted = 106 ∷ [] }
    ∷ []

-- a draw over residues with t = 1, m = 1 and k = 2, and another
abbrev pub tour_draw : List ℕ
tour_draw = 5 ∷ 7 ∷ 11 ∷ 20 ∷ 30 ∷ 40 ∷ []

abbrev pub other_draw : List ℕ
other_draw = 147 ∷ 193 ∷ 175 ∷ 135 ∷ 101 ∷ 133 ∷ []

-- the codes of its seats 1 and 3
abbrev pub seats_1_and_3 : List (List ℕ)
seats_1_and_3 = (25 ∷ 37 ∷ 51 ∷ []) ∷ (65 ∷ 97 ∷ 131 ∷ []) ∷ []

-- of shares, seats, restoring, and keys from masters
abbrev pub scheme_examples : List Example
scheme_examples =
    -- the tour of the draw 5 7 11 20 30 40: kiosk 2 has 19 29, kiosk 3 has 26 40
    record { given = share residue_arith 1 1 tour_draw 2; wanted = 19 ∷ 29 ∷ [] }
    ∷ record { given = share residue_arith 1 1 tour_draw 3; wanted = 26 ∷ 40 ∷ [] }
    -- its seat 1 has 25 37 51, seat 2 has 45 67 91, seat 3 has 65 97 131
    ∷ record { given = seat residue_arith 3 2 tour_draw 1; wanted = 25 ∷ 37 ∷ 51 ∷ [] }
    ∷ record { given = seat residue_arith 3 2 tour_draw 2; wanted = 45 ∷ 67 ∷ 91 ∷ [] }
    ∷ record { given = seat residue_arith 3 2 tour_draw 3; wanted = 65 ∷ 97 ∷ 131 ∷ [] }
    -- its seats 1 and 3 restore 5 7 11, and seat 2 agrees with them
    ∷ record { given = restored residue_arith (1 ∷ 3 ∷ []) seats_1_and_3 3 0; wanted = 5 ∷ 7 ∷ 11 ∷ [] }
    ∷ record { given = restored residue_arith (1 ∷ 3 ∷ []) seats_1_and_3 3 2; wanted = 45 ∷ 67 ∷ 91 ∷ [] }
    -- another draw gives kiosk 2 and seat 1 the same codes, and moves the key of 3 and 4 from 186 to 0
    ∷ record { given = share residue_arith 1 1 other_draw 2; wanted = 19 ∷ 29 ∷ [] }
    ∷ record { given = seat residue_arith 3 2 other_draw 1; wanted = 25 ∷ 37 ∷ 51 ∷ [] }
    ∷ record { given = master_key residue_arith 1 1 tour_draw 3 4; wanted = 186 ∷ [] }
    ∷ record { given = master_key residue_arith 1 1 other_draw 3 4; wanted = 0 ∷ [] }
    -- bytes, hex, t = 1, master 01 02 03: kiosk 02 has 05 04, kiosk 03 has 07 07, key 09
    ∷ record { given = share byte_arith 1 1 (0x01 ∷ 0x02 ∷ 0x03 ∷ []) 0x02; wanted = 0x05 ∷ 0x04 ∷ [] }
    ∷ record { given = share byte_arith 1 1 (0x01 ∷ 0x02 ∷ 0x03 ∷ []) 0x03; wanted = 0x07 ∷ 0x07 ∷ [] }
    ∷ record { given = master_key byte_arith 1 1 (0x01 ∷ 0x02 ∷ 0x03 ∷ []) 0x02 0x03; wanted = 0x09 ∷ [] }
    ∷ []

-- every example gives what it should
abbrev pub ExamplesHold : Type 0
ExamplesHold = map (λ (e : Example). e.given) (examples ++ scheme_examples) ≡ map (λ (e : Example). e.wanted) (examples ++ scheme_examples)
