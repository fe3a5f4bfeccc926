-- A sound lone book stays sound under every accepted command, and so whatever the lines.
use Rattle.std.proofs.Common.{ℕ, Option, Some, None, ◌≡◌, refl, true, List, [], ◌∷◌, length, leb-false}
use borrow.Author.Tests.{not-false}
use Rattle.tables.specs.Count.{has, every}
use Rattle.meaning.specs.Forms.{Letter}
use Rattle.meaning.specs.Records.{Book, empty, Command, command_of, add_type, end_type, add_rule, reorder, delete_rule, add_row, delete_row, add_period, end_period, ask, type_quota, rule_quota, row_quota, period_quota}
use Rattle.meaning.specs.Keys.{is_type, is_rule}
use Rattle.meaning.specs.Refusals.{conditions, refusal}
use Rattle.meaning.specs.Edits.{edited, fits}
use Rattle.meaning.specs.Reading.{Reading, refused, asks, reading}
use Rattle.meaning.specs.Lone.{unless, taken, after_reading, step, after}
use Rattle.meaning.specs.Sound.{sound_lone}
use Rattle.meaning.specs.declared.Sent.TheVariants.{Alone}
use Rattle.meaning.specs.declared.Refusal.{Refusal}
use Rattle.meaning.specs.declared.Refusal.TheVariants.{NotFound, AlreadyHeld, Conflict, QuotaFull}
use Rattle.meaning.proofs.First.{command_not_refused}
use Rattle.meaning.proofs.Ranges.{reading_fits}
use Rattle.meaning.proofs.Good.{Lists, Good, good_lists, good_of_sound, sound_of_good}
use Rattle.meaning.proofs.KeptTypes.{type_added, type_ended_lem}
use Rattle.meaning.proofs.KeptRules.{rule_added, rule_deleted, row_added, row_deleted}
use Rattle.meaning.proofs.KeptOrder.{reordered}
use Rattle.meaning.proofs.KeptPeriods.{period_added, period_ended_lem}

-- ---- every command

lists_edited : (b : Book) → Lists b → (k : Command) → fits k ≡ true → refusal b k ≡ None → Lists (edited b k)
unfolding conditions fits edited every
lists_edited b g (add_type d t) f e =
    let no = command_not_refused b (add_type d t) e in
    type_added b g t f (no AlreadyHeld) (leb-false type_quota (length b.types) (no QuotaFull))
lists_edited b g (end_type d n o last) f e =
    type_ended_lem b g n o last f (command_not_refused b (end_type d n o last) e Conflict)
lists_edited b g (add_rule d r) f e =
    let no = command_not_refused b (add_rule d r) e in
    rule_added b g r f (not-false (has (is_type r.type r.object) b.types) (no NotFound)) (no AlreadyHeld)
    (leb-false rule_quota (length b.rules) (no QuotaFull))
lists_edited b g (reorder n o s new) f e =
    reordered n o s new b g f (command_not_refused b (reorder n o s new) e AlreadyHeld)
lists_edited b g (delete_rule n o s) f e = rule_deleted b g n o s (command_not_refused b (delete_rule n o s) e Conflict)
lists_edited b g (add_row w) f e =
    let no = command_not_refused b (add_row w) e in
    row_added b g w f (not-false (has (is_rule w.type w.object w.sequence) b.rules) (no NotFound)) (no AlreadyHeld) (no Conflict)
    (leb-false row_quota (length b.rows) (no QuotaFull))
lists_edited b g (delete_row w) f e = row_deleted b g w
lists_edited b g (add_period d p) f e =
    let no = command_not_refused b (add_period d p) e in
    period_added b g p f (no AlreadyHeld) (leb-false period_quota (length b.periods) (no QuotaFull))
lists_edited b g (end_period d κ n o first last) f e =
    period_ended_lem b g κ n o first last f (command_not_refused b (end_period d κ n o first last) e Conflict)
lists_edited b g (ask q w) f e = g

pub good_edited : (b : Book) → Good b → (k : Command) → fits k ≡ true → refusal b k ≡ None → Good (edited b k)
good_edited b g k f e = good_lists (edited b k) (lists_edited b g.lists k f e)

-- ---- every line

unless_good : (b : Book) → Good b → (o : Option Refusal) (k : Command) → (o ≡ None → Good (edited b k)) → Good (unless o b k).book
unfolding unless
unless_good b g None k h = h refl
unless_good b g (Some r) k h = g

pub taken_good : (b : Book) → Good b → (k : Command) → fits k ≡ true → Good (taken b k).book
unfolding taken refusal
taken_good b g k f = unless_good b g (refusal b k) k (good_edited b g k f)

after_good : (b : Book) → Good b → (r : Reading)
    → ((l : Letter) (v : List ℕ) → r ≡ asks l v → fits (command_of l v) ≡ true) → Good (after_reading Alone b r).book
unfolding after_reading taken
after_good b g (refused r) h = g
after_good b g (asks l v) h = taken_good b g (command_of l v) (h l v refl)

-- A sound lone book stays sound, whatever the line.
pub step_sound : (b : Book) → sound_lone b ≡ true → (line : List ℕ) → sound_lone (step b line).book ≡ true
unfolding step
step_sound b e line =
    sound_of_good (step b line).book (after_good b (good_of_sound b e) (reading line) (reading_fits line))

pub empty_sound : sound_lone empty ≡ true
unfolding sound_lone
empty_sound = refl

-- The book after a list of lines, each answered by the book that the lines before it left, is sound.
pub lines_sound : (lines : List (List ℕ)) (b : Book) → sound_lone b ≡ true → sound_lone (after b lines) ≡ true
unfolding after
lines_sound [] b e = e
lines_sound (line ∷ lines) b e = lines_sound lines (step b line).book (step_sound b e line)
