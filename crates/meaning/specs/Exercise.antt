-- THE EXERCISE: a rule is taken out and put back, or moved to another sequence. What the answers are then, over every
-- sound lone book. Stated here, proved in proofs/Exercise*. Assumes nothing.
use Rattle.std.specs.Prelude.{ℕ, ◌≡◌, Bool, true, false, cond, ◌&&◌, ◌||◌, List, [], ◌∷◌, ◌++◌, map, eqb, Option, Some, None}
use Rattle.std.proofs.Math.Dec.{ltb}
use Rattle.std.specs.Option.{option_map}
use Rattle.tables.specs.Count.{has, change, least, Same}
use Rattle.meaning.specs.Records.{
  Rule,
  Row,
  Book,
  Question,
  Command,
  command_of,
  add_rule,
  reorder,
  delete_rule,
  add_row,
  delete_row,
  ask,
  positive,
  negative,
}
use Rattle.meaning.specs.Reading.{Reading, refused, asks, reading}
use Rattle.meaning.specs.Keys.{is_rule, of_rule}
use Rattle.meaning.specs.Edits.{rule_moved, row_moved}
use Rattle.meaning.specs.Judging.{by, rule_applies, rejected, judged}
use Rattle.meaning.specs.Status.{answer_to}
use Rattle.meaning.specs.declared.Wishes.{Wishes}
use Rattle.meaning.specs.Lone.{elsewhere, step_sent, depository, answers_sent, after_sent}
use Rattle.meaning.specs.Sound.{sound_lone}
use Rattle.meaning.specs.SameBook.{SameBook}
use Rattle.meaning.specs.declared.Deciding.{Deciding}
use Rattle.meaning.specs.declared.Verdict.{Verdict}
use Rattle.meaning.specs.declared.Answer.TheVariants.{Taken}
use Rattle.meaning.specs.declared.Sent.{Sent}

-- ---- lines that are taken

-- what is read asks for a command, or is refused
unfoldable pub command_read : Reading → Option Command
unfolding command_of
command_read (refused r) = None
command_read (asks l v) = Some (command_of l v)

-- Lines are sent one after the other, alone or in batches: these commands, each answered K, and between them any lines
-- that leave the lists, as questions and refused lines do.
pub data Entered : Book → List (Sent × List ℕ) → List Command → Type 0 where
  done : {b : Book} → Entered b [] []
  taking : {b : Book} {how : Sent} {line : List ℕ} {lines : List (Sent × List ℕ)} {k : Command} {ks : List Command}
      → command_read (reading line) ≡ Some k → (step_sent how b line).answer ≡ Taken
      → Entered (step_sent how b line).book lines ks → Entered b ((how, line) ∷ lines) (k ∷ ks)
  passing : {b : Book} {how : Sent} {line : List ℕ} {lines : List (Sent × List ℕ)} {ks : List Command}
      → (step_sent how b line).book ≡ b → Entered b lines ks → Entered b ((how, line) ∷ lines) ks

-- A line that asks a question, and names the depository of its batch where it comes in one, is answered with its
-- verdict, and the status where it carries the wishes: what is said below of `judged` is said of the answers.
abbrev pub QuestionAnswered : Type 0
QuestionAnswered =
    (how : Sent) (b : Book) (line : List ℕ) (q : Question) (w : Wishes) → elsewhere how (depository line) ≡ false
    → command_read (reading line) ≡ Some (ask q w) → (step_sent how b line).answer ≡ answer_to (judged b q) w

-- the book holds exactly that rule: sequence, sign, criteria and days too
unfoldable pub same_rule : Rule → Rule → Bool
unfolding is_rule
same_rule r x =
    is_rule r.type r.object r.sequence x
    && (eqb x.sign r.sign && eqb x.criteria r.criteria && eqb x.first r.first && eqb x.last r.last)

-- N for each of the rows, D, R with that rule, and M for each of the rows that it gets
abbrev pub out_and_in : Rule → List Row → ℕ → Rule → List Row → List Command
out_and_in r out day again rows =
    map delete_row out
    ++ (delete_rule r.type r.object r.sequence ∷ add_rule day again ∷ map add_row rows)

-- ---- put back as it was

-- A rule whose rows are taken out one by one, that is taken out, entered again as it was and given its rows again in
-- any order, each of these lines being answered K: the book holds exactly the same records.
abbrev pub PutBack : Type 0
PutBack =
    (b : Book) → sound_lone b ≡ true → (r : Rule) → has (same_rule r) b.rules ≡ true
    → (out rows : List Row) → Same rows out
    → (day : ℕ) (lines : List (Sent × List ℕ)) → Entered b lines (out_and_in r out day r rows)
    → SameBook (after_sent b lines) b

-- So every later line gets the same answer.
abbrev pub PutBackAnswers : Type 0
PutBackAnswers =
    (b : Book) → sound_lone b ≡ true → (r : Rule) → has (same_rule r) b.rules ≡ true
    → (out rows : List Row) → Same rows out
    → (day : ℕ) (lines : List (Sent × List ℕ)) → Entered b lines (out_and_in r out day r rows)
    → (later : List (Sent × List ℕ)) → answers_sent (after_sent b lines) later ≡ answers_sent b later

-- ---- put back elsewhere

-- the two ways to another sequence: O; or out and in again under that number, with the same rows in any order, its own
-- rows under the new number
pub data Way (b : Book) (r : Rule) (new : ℕ) (lines : List (Sent × List ℕ)) : Type 0 where
  by_reorder : Entered b lines (reorder r.type r.object r.sequence new ∷ []) → Way b r new lines
  by_entry : (new ≡ r.sequence → ⊥) → (out rows : List Row)
      → Same rows (change (of_rule r.type r.object r.sequence) (row_moved new) out) → (day : ℕ)
      → Entered b lines (out_and_in r out day (rule_moved new r) rows) → Way b r new lines

-- the lines move a rule of a sound lone book to that sequence, each being answered K
pub record Moves (b : Book) (r : Rule) (new : ℕ) (lines : List (Sent × List ℕ)) : Type 0 where
  pub sound : sound_lone b ≡ true
  pub held : has (same_rule r) b.rules ≡ true
  pub way : Way b r new lines

-- Both ways lead to exactly the same records.
abbrev pub EitherWay : Type 0
EitherWay =
    (b : Book) (r : Rule) (new : ℕ) (lines others : List (Sent × List ℕ)) → Moves b r new lines → Moves b r new others
    → SameBook (after_sent b lines) (after_sent b others)

-- the type, if any, with its sequence by f
abbrev pub sequenced : (ℕ → ℕ) → Option Deciding → Option Deciding
sequenced f = option_map (λ d. by d.number (f d.number))

-- the verdict with the sequences by f: whether it is rejected, and the types that are named, stay
unfoldable pub resequenced : (ℕ → ℕ) → Verdict → Verdict
resequenced f v = record {
  rejection = sequenced f v.rejection;
  validation = sequenced f v.validation;
  party = sequenced f v.party;
}

module _ (b : Book) (q : Question) (r : Rule) (new : ℕ) where
  -- where a rule stands, the moved rule counted at its new place
  abbrev pub placed : Rule → ℕ
  placed x = cond (is_rule r.type r.object r.sequence x) new x.sequence

  -- the least sequence of the positive rules of that type that match, the moved rule counted at its new place
  unfoldable pub deciding_moved : ℕ → ℕ
  unfolding least rule_applies is_rule
  deciding_moved type = least placed (rule_applies b q type positive) b.rules

  -- a matching positive rule of the moved rule's type that stands between its old and its new sequence
  unfoldable pub between : Rule → Bool
  unfolding rule_applies
  between x = rule_applies b q r.type positive x && ltb r.sequence x.sequence && ltb x.sequence new

-- A rule moved to another sequence: the answer to every question stays, but for the sequences named, and these are the
-- least of the positive rules of their type that match, the moved rule counted at its new place.
abbrev pub PutElsewhere : Type 0
PutElsewhere =
    (b : Book) (r : Rule) (new : ℕ) (lines : List (Sent × List ℕ)) → Moves b r new lines → (q : Question)
    → judged (after_sent b lines) q ≡ resequenced (deciding_moved b q r new) (judged b q)

-- the type that decides, if any
abbrev pub type_named : Option Deciding → Option ℕ
type_named = option_map (λ d. d.number)

-- what an answer says but for the sequences: whether it is rejected, and the types that reject, hold for validation and
-- hold for the party, if any
pub record SameTypes (v w : Verdict) : Type 0 where
  pub rejected : rejected v ≡ rejected w
  pub rejection : type_named v.rejection ≡ type_named w.rejection
  pub validation : type_named v.validation ≡ type_named w.validation
  pub party : type_named v.party ≡ type_named w.party

-- So it changes neither whether the instruction is rejected, nor which hold is on, nor which type is named.
abbrev pub ElsewhereTypes : Type 0
ElsewhereTypes =
    (b : Book) (r : Rule) (new : ℕ) (lines : List (Sent × List ℕ)) → Moves b r new lines → (q : Question)
    → SameTypes (judged (after_sent b lines) q) (judged b q)

-- whether that type decides, with that sequence
abbrev pub is_deciding : ℕ → ℕ → Option Deciding → Bool
is_deciding type sequence None = false
is_deciding type sequence (Some d) = eqb d.number type && eqb d.sequence sequence

-- whether a verdict names it
unfoldable pub names_rule : ℕ → ℕ → Verdict → Bool
names_rule type sequence v =
    is_deciding type sequence v.rejection || (is_deciding type sequence v.validation || is_deciding type sequence v.party)

-- the answer to the question names the rule
unfoldable pub decides : Book → Question → Rule → Bool
unfolding names_rule judged
decides b q r = eqb q.object r.object && names_rule r.type r.sequence (judged b q)

-- The answer stays exactly if the moved rule neither decided before nor decides after.
abbrev pub ElsewhereChanges : Type 0
ElsewhereChanges =
    (b : Book) (r : Rule) (new : ℕ) (lines : List (Sent × List ℕ)) → Moves b r new lines → (q : Question)
    → let either = decides b q r || decides (after_sent b lines) q (rule_moved new r) in
    (either ≡ false → judged (after_sent b lines) q ≡ judged b q) × (judged (after_sent b lines) q ≡ judged b q → either ≡ false)

-- The second desk: where the moved rule decided and another matching positive rule of its type stands between its old
-- and its new sequence, the least of those is named instead.
abbrev pub BehindAnother : Type 0
BehindAnother =
    (b : Book) (r : Rule) (new : ℕ) (lines : List (Sent × List ℕ)) → Moves b r new lines → (q : Question)
    → decides b q r ≡ true → has (between b q r new) b.rules ≡ true
    → names_rule r.type (least (λ x. x.sequence) (between b q r new) b.rules) (judged (after_sent b lines) q) ≡ true

-- ---- what may be moved freely

-- A negative rule moved to another sequence changes no answer to any question.
abbrev pub NegativeMoved : Type 0
NegativeMoved =
    (b : Book) (r : Rule) (new : ℕ) (lines : List (Sent × List ℕ)) → Moves b r new lines → r.sign ≡ negative
    → (q : Question) → judged (after_sent b lines) q ≡ judged b q

-- A rule without rows changes no answer to any question, wherever it stands: not when it is moved,
abbrev pub WithoutRowsMoved : Type 0
WithoutRowsMoved =
    (b : Book) (r : Rule) (new : ℕ) (lines : List (Sent × List ℕ)) → Moves b r new lines
    → has (of_rule r.type r.object r.sequence) b.rows ≡ false
    → (q : Question) → judged (after_sent b lines) q ≡ judged b q

-- not when it is entered (R; a rule just entered has no rows),
abbrev pub WithoutRowsEntered : Type 0
WithoutRowsEntered =
    (b : Book) → sound_lone b ≡ true → (day : ℕ) (r : Rule) (lines : List (Sent × List ℕ))
    → Entered b lines (add_rule day r ∷ []) → (q : Question) → judged (after_sent b lines) q ≡ judged b q

-- and not when it is taken out (D, which is taken only of a rule without rows).
abbrev pub WithoutRowsDeleted : Type 0
WithoutRowsDeleted =
    (b : Book) (type object sequence : ℕ) (lines : List (Sent × List ℕ))
    → Entered b lines (delete_rule type object sequence ∷ []) → (q : Question) → judged (after_sent b lines) q ≡ judged b q
