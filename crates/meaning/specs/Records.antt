-- The records of a lone book, and what a line asks, by name (document 01, 'Records' and the table of letters; document
-- 02, requests b and d). Assumes nothing. A lone book is one depository's, so its records do not have the csd.
use Rattle.std.specs.Prelude.{ℕ, Bool, cond, List, [], ◌∷◌, eqb, get_or, Option, Some, None}
use Rattle.meaning.specs.declared.Wishes.{Wishes}
use Rattle.meaning.specs.Forms.{Letter, letter_t, letter_e, letter_r, letter_o, letter_d, letter_m, letter_n, letter_a, letter_z, letter_q}

-- ---- words as numbers: their places in the lists of `Forms`

abbrev pub positive : ℕ
positive = 1

abbrev pub negative : ℕ
negative = 2

abbrev pub party : ℕ
party = 1

abbrev pub account : ℕ
account = 2

abbrev pub security : ℕ
security = 3

abbrev pub rejection : ℕ
rejection = 1

abbrev pub validation_hold : ℕ
validation_hold = 2

abbrev pub party_hold : ℕ
party_hold = 3

-- what a hold indicator or an account's default says by its number: whether it is Y; nothing where it is empty
abbrev pub wish_of : ℕ → Option Bool
wish_of n = cond (eqb n 0) None (Some (eqb n 1))

-- ---- the records

pub record TypeRecord : Type 0 where
  pub type : ℕ
  pub object : ℕ
  pub processing : ℕ
  pub first : ℕ
  pub last : ℕ

pub record Rule : Type 0 where
  pub type : ℕ
  pub object : ℕ
  pub sequence : ℕ
  pub sign : ℕ
  pub criteria : ℕ
  pub first : ℕ
  pub last : ℕ

-- values: criteria 0 to 9, 0 where empty
pub record Row : Type 0 where
  pub type : ℕ
  pub object : ℕ
  pub sequence : ℕ
  pub values : List ℕ

pub record Period : Type 0 where
  pub kind : ℕ
  pub number : ℕ
  pub code : ℕ
  pub first : ℕ
  pub last : ℕ

-- A pending instruction that is kept with its holds (document 02, request d): its reference, the nine fields of S from
-- object to security, the day on which the validation hold and the party hold were put on, 0 where that hold is off,
-- and the types remembered, of which a negative rule matched at S or at a W: their numbers, each once, rising.
-- No book holds one yet.
pub record Kept : Type 0 where
  pub reference : ℕ
  pub object : ℕ
  pub party_type : ℕ
  pub movement : ℕ
  pub payment : ℕ
  pub transaction : ℕ
  pub currency : ℕ
  pub party : ℕ
  pub account : ℕ
  pub security : ℕ
  pub validating : ℕ
  pub holding : ℕ
  pub remembered : List ℕ

pub record Book : Type 0 where
  pub types : List TypeRecord
  pub rules : List Rule
  pub rows : List Row
  pub periods : List Period

abbrev pub empty : Book
empty = record { types = []; rules = []; rows = []; periods = [] }

-- how many records of each kind a depository may hold
abbrev pub type_quota : ℕ
type_quota = 16

abbrev pub rule_quota : ℕ
rule_quota = 64

abbrev pub row_quota : ℕ
row_quota = 128

abbrev pub period_quota : ℕ
period_quota = 128

-- of kept instructions
abbrev pub instruction_quota : ℕ
instruction_quota = 32

-- ---- what a line asks

-- what a question is judged by: transaction, currency, movement and payment are 0 where empty
pub record Question : Type 0 where
  pub day : ℕ
  pub object : ℕ
  pub party_type : ℕ
  pub movement : ℕ
  pub payment : ℕ
  pub transaction : ℕ
  pub currency : ℕ
  pub party : ℕ
  pub account : ℕ
  pub security : ℕ

pub data Command : Type 0 where
  add_type : (day : ℕ) → TypeRecord → Command
  end_type : (day type object last : ℕ) → Command
  add_rule : (day : ℕ) → Rule → Command
  reorder : (type object sequence new : ℕ) → Command
  delete_rule : (type object sequence : ℕ) → Command
  add_row : Row → Command
  delete_row : Row → Command
  add_period : (day : ℕ) → Period → Command
  end_period : (day kind number code first last : ℕ) → Command
  ask : Question → Wishes → Command

-- the question that a command asks, if it is one, with the wishes that it carries
abbrev pub question_in : Command → Option (Question × Wishes)
question_in (add_type day t) = None
question_in (end_type day type object last) = None
question_in (add_rule day r) = None
question_in (reorder type object sequence new) = None
question_in (delete_rule type object sequence) = None
question_in (add_row w) = None
question_in (delete_row w) = None
question_in (add_period day p) = None
question_in (end_period day kind number code first last) = None
question_in (ask q w) = Some (q, w)

-- the number at a place of a list, 0 past its end
infixl 90 ◌!◌
abbrev pub ◌!◌ : List ℕ → ℕ → ℕ
v ! i = get_or v i 0

-- the row that the numbers of an M or N line name
abbrev pub row_of : List ℕ → Row
row_of v = record {
  type = v ! 2;
  object = v ! 3;
  sequence = v ! 4;
  values = v ! 5 ∷ v ! 6 ∷ v ! 7 ∷ v ! 8 ∷ v ! 9 ∷ v ! 10 ∷ v ! 11 ∷ v ! 12 ∷ v ! 13 ∷ v ! 14 ∷ [];
}

-- what a line of that letter asks, by the numbers of the fields after it: 0 the csd, 1 the day, ..
unfoldable pub command_of : Letter → List ℕ → Command
command_of letter_t v =
    add_type (v ! 1) (record { type = v ! 2; object = v ! 3; processing = v ! 4; first = v ! 5; last = v ! 6 })
command_of letter_e v = end_type (v ! 1) (v ! 2) (v ! 3) (v ! 4)
command_of letter_r v =
    add_rule (v ! 1)
    (record { type = v ! 2; object = v ! 3; sequence = v ! 4; sign = v ! 5; criteria = v ! 6; first = v ! 7; last = v ! 8 })
command_of letter_o v = reorder (v ! 2) (v ! 3) (v ! 4) (v ! 5)
command_of letter_d v = delete_rule (v ! 2) (v ! 3) (v ! 4)
command_of letter_m v = add_row (row_of v)
command_of letter_n v = delete_row (row_of v)
command_of letter_a v =
    add_period (v ! 1) (record { kind = v ! 2; number = v ! 3; code = v ! 4; first = v ! 5; last = v ! 6 })
command_of letter_z v = end_period (v ! 1) (v ! 2) (v ! 3) (v ! 4) (v ! 5) (v ! 6)
command_of letter_q v =
    ask
    (record {
      day = v ! 1;
      object = v ! 2;
      party_type = v ! 3;
      movement = v ! 4;
      payment = v ! 5;
      transaction = v ! 6;
      currency = v ! 7;
      party = v ! 8;
      account = v ! 9;
      security = v ! 10;
    })
    (record { indicator = wish_of (v ! 11); default = wish_of (v ! 12) })
