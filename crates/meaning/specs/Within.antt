-- 'Types from next year only' (document 02, request c): a rule's period and its type's. Stated here, proved in
-- proofs/Within, proofs/WithinLines and proofs/WithinJudged. Assumes nothing.
use Rattle.std.specs.Prelude.{ℕ, ◌≤◌, ◌≡◌, Bool, true, false, not, ◌&&◌, ◌||◌, List, [], ◌∷◌, Some, leb}
use Rattle.tables.specs.Count.{has, every, change}
use Rattle.meaning.specs.Text.{bytes, same}
use Rattle.meaning.specs.Forms.{Letter, letter_e, letter_r, letter_text}
use Rattle.meaning.specs.Records.{TypeRecord, Rule, Row, Book, empty, Question, command_of, end_type, add_rule, reorder, add_row}
use Rattle.meaning.specs.Reading.{Reading, refused, asks, reading}
use Rattle.meaning.specs.Keys.{is_type, is_rule}
use Rattle.meaning.specs.Refusals.{leaves, refusal, is_given}
use Rattle.meaning.specs.Edits.{with_types, with_rules}
use Rattle.meaning.specs.Judging.{covers, rule_applies, applies, judged}
use Rattle.meaning.specs.Sound.{sound_lone}
use Rattle.meaning.specs.Lone.{answers, after, after_sent}
use Rattle.meaning.specs.declared.Answer.TheVariants.{Taken}
use Rattle.meaning.specs.declared.Refusal.TheVariants.{LeavesType}
use Rattle.meaning.specs.declared.Sent.{Sent}

-- ---- 'keeps each rule within its type'

-- the rule's type, whose period the rule's does not leave
unfoldable pub holds_rule : Rule → TypeRecord → Bool
unfolding is_type leaves
holds_rule r t = is_type r.type r.object t && not (leaves r t)

-- every rule lies within its type
unfoldable pub all_within : Book → Bool
unfolding every has holds_rule
all_within b = every (λ r. has (holds_rule r) b.types) b.rules

-- A rule's period leaves its type's exactly if one of its days, the numbers from first to last, is none of the type's.
pub record ByDays (r : Rule) (t : TypeRecord) : Type 0 where
  pub days_held : leaves r t ≡ false → (day : ℕ) → covers r.first r.last day ≡ true
      → covers t.first t.last day ≡ true
  pub not_left : ((day : ℕ) → covers r.first r.last day ≡ true → covers t.first t.last day ≡ true)
      → leaves r t ≡ false

abbrev pub LeavesByDays : Type 0
LeavesByDays =
    (r : Rule) (t : TypeRecord) → is_type r.type r.object t ≡ true → r.first ≤ r.last → ByDays r t

-- ---- '13 when R's period leaves the type's period'

-- An R is refused 13 exactly if 6, 7 and 8 do not hold and its period leaves the type's, whether or not 10 holds.
abbrev pub Thirteen : Type 0
Thirteen =
    (b : Book) (day : ℕ) (r : Rule)
    → is_given LeavesType (refusal b (add_rule day r))
    ≡ (not (leb r.first day) && has (is_type r.type r.object) b.types
    && not (has (is_rule r.type r.object r.sequence) b.rules) && has (leaves r) b.types)

-- No other letter is refused 13,
abbrev pub OnlyR : Type 0
OnlyR = (b : Book) (l : Letter) (v : List ℕ) → refusal b (command_of l v) ≡ Some LeavesType → l ≡ letter_r

-- and what O and M are refused does not depend on the types, so on no period of a type.
pub record WhateverTypes : Type 0 where
  pub order : (b : Book) (types : List TypeRecord) (type object sequence new : ℕ)
      → refusal (with_types types b) (reorder type object sequence new) ≡ refusal b (reorder type object sequence new)
  pub row : (b : Book) (types : List TypeRecord) (w : Row)
      → refusal (with_types types b) (add_row w) ≡ refusal b (add_row w)

-- ---- 'These are refused from now on'

-- whether what is read is an E
unfoldable pub is_e : Reading → Bool
is_e (refused r) = false
is_e (asks l v) = same (letter_text l) (letter_text letter_e)

-- whether a line is an E, whatever it is answered
unfoldable pub sends_e : List ℕ → Bool
unfolding is_e reading
sends_e line = is_e (reading line)

-- whether one of the lines is
unfoldable pub some_e : List (Sent × List ℕ) → Bool
unfolding has sends_e
some_e lines = has (λ l. sends_e l.1) lines

-- A book in which every rule lies within its type stays so, whatever lines are sent, unless one of them is an E.
abbrev pub StaysWithin : Type 0
StaysWithin =
    (b : Book) (lines : List (Sent × List ℕ)) → all_within b ≡ true → some_e lines ≡ false
    → all_within (after_sent b lines) ≡ true

-- So it is with the lone book, which is empty at first.
abbrev pub WithinAlone : Type 0
WithinAlone =
    (lines : List (Sent × List ℕ)) → some_e lines ≡ false → all_within (after_sent empty lines) ≡ true

-- ---- 'E may still shorten a type under them'

-- Whether an E is refused, and by which number, does not depend on the rules.
abbrev pub EndsUnderRules : Type 0
EndsUnderRules =
    (b : Book) (rules : List Rule) (day type object last : ℕ)
    → refusal (with_rules rules b) (end_type day type object last) ≡ refusal b (end_type day type object last)

-- type 9 until the end of 2017, a rule of it until then with a row, and the type shortened to the end of June
unfoldable pub shortened_lines : List (List ℕ)
shortened_lines =
    bytes "T,2,20170206,9,1,1,20170207,20171231"
    ∷ bytes "R,2,20170206,9,1,5,P,4,20170207,20171231"
    ∷ bytes "M,2,20170206,9,1,5,,,FREE,,,,,,,"
    ∷ bytes "E,2,20170206,9,1,20170630"
    ∷ []

-- The book that these lines leave is sound, and its rule does not lie within its type: soundness does not ask it.
pub record SoundOutside : Type 0 where
  pub taken : answers shortened_lines ≡ Taken ∷ Taken ∷ Taken ∷ Taken ∷ []
  pub sound : sound_lone (after empty shortened_lines) ≡ true
  pub outside : all_within (after empty shortened_lines) ≡ false

-- ---- 'Stored ones keep working on days when both periods hold'

-- the rule with another period
abbrev pub rule_days : ℕ → ℕ → Rule → Rule
rule_days first last r = record {
  type = r.type;
  object = r.object;
  sequence = r.sequence;
  sign = r.sign;
  criteria = r.criteria;
  first = first;
  last = last;
}

-- the book in which rule s of the type has exactly the type's period, and so lies within it
abbrev pub with_types_period : TypeRecord → ℕ → Book → Book
with_types_period t s b = with_rules (change (is_rule t.type t.object s) (rule_days t.first t.last) b.rules) b

-- On a day that the rule's period and its type's both hold, every question is judged as if the rule lay within its
-- type. It is asked of t only that its period holds the day, so it may be the book's type of that key.
abbrev pub KeepsWorking : Type 0
KeepsWorking =
    (b : Book) (t : TypeRecord) (s : ℕ) (q : Question) → covers t.first t.last q.day ≡ true
    → every (λ r. not (is_rule t.type t.object s r) || covers r.first r.last q.day) b.rules ≡ true
    → judged (with_types_period t s b) q ≡ judged b q

-- On a day that its period does not hold, neither a type nor a rule applies.
pub record AppliesWithin : Type 0 where
  pub types : (b : Book) (q : Question) (processing : ℕ) (t : TypeRecord)
      → covers t.first t.last q.day ≡ false → applies b q processing t ≡ false
  pub rules : (b : Book) (q : Question) (type sign : ℕ) (r : Rule)
      → covers r.first r.last q.day ≡ false → rule_applies b q type sign r ≡ false
