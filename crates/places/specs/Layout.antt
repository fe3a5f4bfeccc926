-- The book's tables: where each place starts, the numbers that stand there, and the record that they are.
-- Written by tools/places.py: change that, then run tools/generate.
use Rattle.std.specs.Prelude.{ℕ, ◌+◌, ◌*◌, List, [], ◌∷◌, get_or, drop, replicate}
use Rattle.tables.specs.Bytes.{Width, one, two, three, four, numbers, bytes_of, puts}
use Rattle.places.specs.declared.RestrictionType.{RestrictionType}
use Rattle.places.specs.declared.Rule.{Rule}
use Rattle.places.specs.declared.Row.{Row}
use Rattle.places.specs.declared.Period.{Period}
use Rattle.places.specs.declared.Kept.{Kept}

-- the book's size
abbrev pub book_size : ℕ
book_size = 51200

-- ---- 128 places of 12 bytes, from 0

abbrev pub type_places : ℕ
type_places = 128

abbrev pub type_quota : ℕ
type_quota = 16

abbrev pub type_base : ℕ
type_base = 0

abbrev pub type_width : ℕ
type_width = 12

abbrev pub type_start : ℕ → ℕ
type_start i = type_base + i * type_width

abbrev pub type_widths : List Width
type_widths =
    one ∷ one ∷ one ∷ one ∷ four ∷ four ∷ []

abbrev pub type_from : List ℕ → RestrictionType
type_from v = record {
  csd = get_or v 0 0;
  number = get_or v 1 0;
  object = get_or v 2 0;
  processing = get_or v 3 0;
  first = get_or v 4 0;
  last = get_or v 5 0;
}

abbrev pub type_numbers : RestrictionType → List ℕ
type_numbers r =
    r.csd ∷ r.number ∷ r.object ∷ r.processing ∷ r.first ∷ r.last ∷ []

unfoldable pub type_at : List ℕ → ℕ → RestrictionType
type_at b i = type_from (numbers type_widths b (type_start i) 0)

unfoldable pub put_type : List ℕ → ℕ → RestrictionType → List ℕ
put_type b i r = puts b (type_start i) 0 (bytes_of type_widths (type_numbers r))

abbrev pub zero_type : RestrictionType
zero_type = record {
  csd = 0;
  number = 0;
  object = 0;
  processing = 0;
  first = 0;
  last = 0;
}

-- ---- 512 places of 15 bytes, from 1536

abbrev pub rule_places : ℕ
rule_places = 512

abbrev pub rule_quota : ℕ
rule_quota = 64

abbrev pub rule_base : ℕ
rule_base = 1536

abbrev pub rule_width : ℕ
rule_width = 15

abbrev pub rule_start : ℕ → ℕ
rule_start i = rule_base + i * rule_width

abbrev pub rule_widths : List Width
rule_widths =
    one ∷ one ∷ one ∷ one ∷ one ∷ two ∷ four ∷ four ∷ []

abbrev pub rule_from : List ℕ → Rule
rule_from v = record {
  csd = get_or v 0 0;
  number = get_or v 1 0;
  object = get_or v 2 0;
  sequence = get_or v 3 0;
  sign = get_or v 4 0;
  criteria = get_or v 5 0;
  first = get_or v 6 0;
  last = get_or v 7 0;
}

abbrev pub rule_numbers : Rule → List ℕ
rule_numbers r =
    r.csd ∷ r.number ∷ r.object ∷ r.sequence ∷ r.sign ∷ r.criteria ∷ r.first ∷ r.last ∷ []

unfoldable pub rule_at : List ℕ → ℕ → Rule
rule_at b i = rule_from (numbers rule_widths b (rule_start i) 0)

unfoldable pub put_rule : List ℕ → ℕ → Rule → List ℕ
put_rule b i r = puts b (rule_start i) 0 (bytes_of rule_widths (rule_numbers r))

abbrev pub zero_rule : Rule
zero_rule = record {
  csd = 0;
  number = 0;
  object = 0;
  sequence = 0;
  sign = 0;
  criteria = 0;
  first = 0;
  last = 0;
}

-- ---- 1024 places of 26 bytes, from 9216

abbrev pub row_places : ℕ
row_places = 1024

abbrev pub row_quota : ℕ
row_quota = 128

abbrev pub row_base : ℕ
row_base = 9216

abbrev pub row_width : ℕ
row_width = 26

abbrev pub row_start : ℕ → ℕ
row_start i = row_base + i * row_width

abbrev pub row_widths : List Width
row_widths =
    one ∷ one ∷ one ∷ one ∷ one ∷ one ∷ one ∷ four ∷ three ∷ three ∷ two ∷ two ∷ two ∷ three ∷ []

abbrev pub row_from : List ℕ → Row
row_from v = record {
  csd = get_or v 0 0;
  number = get_or v 1 0;
  object = get_or v 2 0;
  sequence = get_or v 3 0;
  values = drop 4 v;
}

abbrev pub row_numbers : Row → List ℕ
row_numbers r =
    r.csd ∷ r.number ∷ r.object ∷ r.sequence ∷ get_or r.values 0 0 ∷ get_or r.values 1 0 ∷ get_or r.values 2 0
    ∷ get_or r.values 3 0 ∷ get_or r.values 4 0 ∷ get_or r.values 5 0 ∷ get_or r.values 6 0 ∷ get_or r.values 7 0
    ∷ get_or r.values 8 0 ∷ get_or r.values 9 0 ∷ []

unfoldable pub row_at : List ℕ → ℕ → Row
row_at b i = row_from (numbers row_widths b (row_start i) 0)

unfoldable pub put_row : List ℕ → ℕ → Row → List ℕ
put_row b i r = puts b (row_start i) 0 (bytes_of row_widths (row_numbers r))

abbrev pub zero_row : Row
zero_row = record {
  csd = 0;
  number = 0;
  object = 0;
  sequence = 0;
  values = replicate 10 0;
}

-- ---- 1024 places of 15 bytes, from 35840

abbrev pub period_places : ℕ
period_places = 1024

abbrev pub period_quota : ℕ
period_quota = 128

abbrev pub period_base : ℕ
period_base = 35840

abbrev pub period_width : ℕ
period_width = 15

abbrev pub period_start : ℕ → ℕ
period_start i = period_base + i * period_width

abbrev pub period_widths : List Width
period_widths =
    one ∷ one ∷ three ∷ two ∷ four ∷ four ∷ []

abbrev pub period_from : List ℕ → Period
period_from v = record {
  csd = get_or v 0 0;
  kind = get_or v 1 0;
  number = get_or v 2 0;
  code = get_or v 3 0;
  first = get_or v 4 0;
  last = get_or v 5 0;
}

abbrev pub period_numbers : Period → List ℕ
period_numbers r =
    r.csd ∷ r.kind ∷ r.number ∷ r.code ∷ r.first ∷ r.last ∷ []

unfoldable pub period_at : List ℕ → ℕ → Period
period_at b i = period_from (numbers period_widths b (period_start i) 0)

unfoldable pub put_period : List ℕ → ℕ → Period → List ℕ
put_period b i r = puts b (period_start i) 0 (bytes_of period_widths (period_numbers r))

abbrev pub zero_period : Period
zero_period = record {
  csd = 0;
  kind = 0;
  number = 0;
  code = 0;
  first = 0;
  last = 0;
}

-- ---- 256 places of 44 bytes, from 51200

abbrev pub instruction_places : ℕ
instruction_places = 256

abbrev pub instruction_quota : ℕ
instruction_quota = 32

abbrev pub instruction_base : ℕ
instruction_base = 51200

abbrev pub instruction_width : ℕ
instruction_width = 44

abbrev pub instruction_start : ℕ → ℕ
instruction_start i = instruction_base + i * instruction_width

abbrev pub instruction_widths : List Width
instruction_widths =
    one ∷ two ∷ one ∷ one ∷ one ∷ one ∷ four ∷ three ∷ three ∷ three ∷ three ∷ four ∷ four ∷ one ∷ one ∷ one ∷ one ∷ one
    ∷ one ∷ one ∷ one ∷ one ∷ one ∷ one ∷ one ∷ one ∷ []

abbrev pub instruction_from : List ℕ → Kept
instruction_from v = record {
  csd = get_or v 0 0;
  reference = get_or v 1 0;
  object = get_or v 2 0;
  role = get_or v 3 0;
  movement = get_or v 4 0;
  payment = get_or v 5 0;
  transaction = get_or v 6 0;
  currency = get_or v 7 0;
  party = get_or v 8 0;
  account = get_or v 9 0;
  security = get_or v 10 0;
  validating = get_or v 11 0;
  holding = get_or v 12 0;
  remembered = drop 13 v;
}

abbrev pub instruction_numbers : Kept → List ℕ
instruction_numbers r =
    r.csd ∷ r.reference ∷ r.object ∷ r.role ∷ r.movement ∷ r.payment ∷ r.transaction ∷ r.currency ∷ r.party ∷ r.account
    ∷ r.security ∷ r.validating ∷ r.holding ∷ get_or r.remembered 0 0 ∷ get_or r.remembered 1 0
    ∷ get_or r.remembered 2 0 ∷ get_or r.remembered 3 0 ∷ get_or r.remembered 4 0 ∷ get_or r.remembered 5 0
    ∷ get_or r.remembered 6 0 ∷ get_or r.remembered 7 0 ∷ get_or r.remembered 8 0 ∷ get_or r.remembered 9 0
    ∷ get_or r.remembered 10 0 ∷ get_or r.remembered 11 0 ∷ get_or r.remembered 12 0 ∷ []

unfoldable pub instruction_at : List ℕ → ℕ → Kept
instruction_at b i = instruction_from (numbers instruction_widths b (instruction_start i) 0)

unfoldable pub put_instruction : List ℕ → ℕ → Kept → List ℕ
put_instruction b i r = puts b (instruction_start i) 0 (bytes_of instruction_widths (instruction_numbers r))

abbrev pub zero_instruction : Kept
zero_instruction = record {
  csd = 0;
  reference = 0;
  object = 0;
  role = 0;
  movement = 0;
  payment = 0;
  transaction = 0;
  currency = 0;
  party = 0;
  account = 0;
  security = 0;
  validating = 0;
  holding = 0;
  remembered = replicate 13 0;
}
