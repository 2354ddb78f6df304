-- The kiosk line: the letter k, five numbers and the codes of a share, in 48 + 8·m(t+1) bytes.
use Rattle.std.specs.Prelude.{◌≡◌, ℕ, ◌+◌, ◌*◌, ◌^◌, ◌<◌, ◌≤◌, cond, ◌||◌, List, [], ◌∷◌, ◌++◌, length, take, drop, Ok, Err, Option, Result, ◌==◌}
use Rattle.std.specs.List.{flat_map, AllByRecursion}
use Rattle.line.specs.declared.refusal.Cause.{Cause}
use Rattle.line.specs.declared.refusal.Cause.TheVariants.{WrongLetter, NoTab, NoHexDigit, NoLineFeed, OutOfRange, OtherMark}
use Rattle.line.specs.declared.refusal.LineFault.{LineFault}
use Rattle.line.specs.declared.kiosk_line.KioskHead.{KioskHead}
use Rattle.line.specs.declared.kiosk_line.KioskLine.{KioskLine}
use Rattle.line.specs.Faults.{first, unless}
use Rattle.line.specs.Digits.{eight, number_at}
use Rattle.line.specs.Steps.{fault, byte_fault, field_fault, codes_fault, end_fault, codes_in, Readable}

-- the codes of a share: t + 1 in each of m lanes
abbrev pub share_size : KioskHead → ℕ
share_size head = head.lanes * (head.degree + 1)

-- the bytes before the codes
unfoldable pub kiosk_front : KioskHead → List ℕ
kiosk_front head =
    107 ∷ 9 ∷ eight head.mark
    ++ (9 ∷ eight head.tour
    ++ (9 ∷ eight head.degree
    ++ (9 ∷ eight head.lanes
    ++ (9 ∷ eight head.number.0
    ++ (9 ∷ [])))))

-- the line of these numbers and codes, byte by byte
unfoldable pub kiosk_line : KioskHead → List ℕ → List ℕ
kiosk_line head codes = kiosk_front head ++ (flat_map eight codes ++ (10 ∷ []))

-- Numbers and codes that a line over a field of this mark and order may have.
pub record InForm (mark order : ℕ) (head : KioskHead) (codes : List ℕ) : Type 0 where
  pub mark_is : head.mark ≡ mark
  pub tour_least : 1 ≤ head.tour
  pub tour_fits : head.tour < 2 ^ 32
  pub degree_least : 1 ≤ head.degree
  pub degree_most : head.degree ≤ 9
  pub lanes_least : 1 ≤ head.lanes
  pub lanes_most : head.lanes ≤ 16
  pub number_least : 1 ≤ head.number.0
  pub number_below : head.number.0 < order
  pub count : length codes ≡ share_size head
  pub codes_below : AllByRecursion (λ c. c < order) codes

-- the head that stands at the places of its numbers
abbrev pub kiosk_head : List ℕ → KioskHead
kiosk_head text = record {
  mark = number_at text 2;
  tour = number_at text 11;
  degree = number_at text 20;
  lanes = number_at text 29;
  number = record { 0 = number_at text 38 };
}

-- The checks of a kiosk line up to the kiosk's number, from left to right, each with its place.
unfoldable pub head_fault : ℕ → ℕ → ℕ → List ℕ → Option LineFault
head_fault line mark order text =
    first
    (byte_fault line text 0 107 WrongLetter
    ∷ field_fault line text 1 (record { least = mark; below = mark + 1; cause = OtherMark })
    ∷ field_fault line text 10 (record { least = 1; below = 2 ^ 32; cause = OutOfRange })
    ∷ field_fault line text 19 (record { least = 1; below = 10; cause = OutOfRange })
    ∷ field_fault line text 28 (record { least = 1; below = 17; cause = OutOfRange })
    ∷ field_fault line text 37 (record { least = 1; below = order; cause = OutOfRange })
    ∷ [])

-- The checks of a kiosk line, from left to right.
unfoldable pub kiosk_fault : ℕ → ℕ → ℕ → List ℕ → Option LineFault
kiosk_fault line mark order text =
    first
    (head_fault line mark order text
    ∷ byte_fault line text 46 9 NoTab
    ∷ codes_fault line text 47 (share_size (kiosk_head text)) order
    ∷ byte_fault line text (47 + 8 * share_size (kiosk_head text)) 10 NoLineFeed
    ∷ end_fault line text (48 + 8 * share_size (kiosk_head text))
    ∷ [])

-- the part of the text in which the codes stand
abbrev pub kiosk_codes : List ℕ → List ℕ
kiosk_codes text = take (8 * share_size (kiosk_head text)) (drop 47 text)

-- What a reader hands out: the numbers, and the codes as a part of the text, with the part's place.
pub record Read : Type 0 where
  pub head : KioskHead
  pub place : ℕ
  pub part : List ℕ

abbrev pub reading : ℕ → ℕ → ℕ → List ℕ → Result Read LineFault
reading line mark order text =
    unless (kiosk_fault line mark order text)
    (record { head = kiosk_head text; place = 47; part = kiosk_codes text })

-- what a reader's answer says, its reference to the text replaced by what it points to
abbrev pub seen : Result KioskLine LineFault → Result Read LineFault
seen (Ok line) = Ok (record { head = line.head; place = line.codes.place; part = line.codes.text.now })
seen (Err fault) = Err fault

-- the bytes of a line with these codes
abbrev pub line_length : List ℕ → ℕ
line_length codes = 48 + 8 * length codes

-- Every line written reads back: from these bytes a reader has the numbers and codes, if they are in form.
abbrev pub ReadsBack : KioskHead → List ℕ → List ℕ → Type 0
ReadsBack head codes bytes =
    (line mark order : ℕ) → order ≤ 2 ^ 32 → InForm mark order head codes
    → (reading line mark order bytes ≡ Ok (record { head = head; place = 47; part = flat_map eight codes })) × (codes_in (flat_map eight codes) ≡ codes)

-- Whatever is read is the line written from it: the text is the line of the numbers read and of the codes in the part, all are in form, and each code can be read
-- where it stands.
pub record Exact (mark order : ℕ) (text : List ℕ) (head : KioskHead) (part : List ℕ) : Type 0 where
  pub written : text ≡ kiosk_line head (codes_in part)
  pub in_form : InForm mark order head (codes_in part)
  pub readable : Readable part

-- the cause that names what is missing at a place, in a line with this many codes that ends there too early
unfoldable pub missing : ℕ → ℕ → Cause
missing size place =
    cond (place == 0) WrongLetter
    (cond (place == 1 || (place == 10 || (place == 19 || (place == 28 || (place == 37 || place == 46))))) NoTab
    (cond (place == 47 + 8 * size) NoLineFeed
    NoHexDigit))

-- A line that is cut short anywhere is refused at its end, with the cause of what is missing there.
abbrev pub CutShort : ℕ → ℕ → ℕ → List ℕ → Result Read LineFault → Type 0
CutShort line mark order text answer =
    (head : KioskHead) (codes : List ℕ) (n : ℕ) → order ≤ 2 ^ 32 → InForm mark order head codes → n < length (kiosk_line head codes)
    → text ≡ take n (kiosk_line head codes)
    → answer ≡ Err (fault line n (missing (share_size head) n))
