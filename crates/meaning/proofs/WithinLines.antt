-- Whatever lines are sent, every rule lies within its type, unless one of them is an E; and a sound book in which one
-- does not.
use Rattle.std.proofs.Common.{ℕ, Option, Some, None, ◌≡◌, refl, ap, ap₂, sym, ◌∙◌, Bool, true, false, not, ◌&&◌, List, [], ◌∷◌}
use mathlib.Core.Path.{fun_ext}
use mathlib.Core.Bool.{false≢true}
use borrow.Author.Tests.{not-false}
use Rattle.tables.specs.Count.{has, every, without}
use Rattle.tables.proofs.Counts.{cases, neither}
use Rattle.tables.proofs.Lists.{has_cons, every_map, every_keep, same_has, same_every}
use Rattle.meaning.specs.Forms.{Letter, letter_t, letter_e, letter_r, letter_o, letter_d, letter_m, letter_n, letter_a, letter_z, letter_q}
use Rattle.meaning.specs.Records.{◌!◌, Rule, TypeRecord, Book, Command, command_of, empty, add_rule, reorder}
use Rattle.meaning.specs.Reading.{Reading, refused, asks, reading}
use Rattle.meaning.specs.Keys.{is_type, is_rule}
use Rattle.meaning.specs.Refusals.{type_outside, leaves, conditions, refusal}
use Rattle.meaning.specs.Edits.{rule_moved, with_types, with_rules, edited}
use Rattle.meaning.specs.Lone.{elsewhere, unless, taken_sent, taken, after_reading, step_sent, answers, after, after_sent}
use Rattle.meaning.specs.SameBook.{SameBook}
use Rattle.meaning.specs.Sound.{sound_lone}
use Rattle.meaning.specs.Within.{holds_rule, all_within, is_e, sends_e, some_e, StaysWithin, WithinAlone, shortened_lines, SoundOutside}
use Rattle.meaning.specs.declared.Sent.{Sent}
use Rattle.meaning.specs.declared.Refusal.{Refusal}
use Rattle.meaning.specs.declared.Refusal.TheVariants.{NotFound, LeavesType}
use Rattle.meaning.proofs.First.{command_not_refused}
use Rattle.meaning.proofs.Listed.{every_cons, has_more, has_where, every_change}
use Rattle.meaning.proofs.HowSent.{taken_here, taken_elsewhere}

-- ---- a command that is taken

not_left : (r : Rule) (t : TypeRecord) → is_type r.type r.object t ≡ true → leaves r t ≡ false
    → holds_rule r t ≡ true
unfolding holds_rule
not_left r t e f = ap₂ (λ a c. a && not c) e f

-- a rule that is not refused 7 or 13 lies within its type
added_within : (b : Book) (day : ℕ) (r : Rule) → refusal b (add_rule day r) ≡ None → has (holds_rule r) b.types ≡ true
unfolding conditions every
added_within b day r e =
    let no = command_not_refused b (add_rule day r) e in
    has_where (leaves r) (is_type r.type r.object) (holds_rule r) b.types (no LeavesType) (λ t n z. not_left r t z n)
    (not-false (has (is_type r.type r.object) b.types) (no NotFound))

module _ (b : Book) (h : all_within b ≡ true) where
  type_added : (t : TypeRecord) → all_within (with_types (t ∷ b.types) b) ≡ true
  unfolding all_within
  type_added t = every_map _ _ b.rules h (λ r. has_more (holds_rule r) t b.types)

  rule_added : (day : ℕ) (r : Rule) → refusal b (add_rule day r) ≡ None → all_within (with_rules (r ∷ b.rules) b) ≡ true
  unfolding all_within
  rule_added day r e = every_cons _ r b.rules (added_within b day r e) h

  -- a rule keeps its period under another sequence
  rule_moved_lem : (type object sequence new : ℕ) → all_within (edited b (reorder type object sequence new)) ≡ true
  unfolding edited all_within holds_rule leaves type_outside
  rule_moved_lem type object sequence new =
      every_change (is_rule type object sequence) (rule_moved new) _ _ b.rules h (λ r z t. t) (λ r z t. t)

  rules_fewer : (p : Rule → Bool) → all_within (with_rules (without p b.rules) b) ≡ true
  unfolding all_within without
  rules_fewer p = every_keep _ _ b.rules h

  -- neither types nor rules are changed
  left_within : (c : Book) → c.types ≡ b.types → c.rules ≡ b.rules → all_within c ≡ true
  unfolding all_within
  left_within c e f = rw (e, f, h)

  command_within : (l : Letter) (v : List ℕ) → is_e (asks l v) ≡ false → refusal b (command_of l v) ≡ None
      → all_within (edited b (command_of l v)) ≡ true
  unfolding edited command_of is_e
  command_within letter_t v n e = type_added _
  command_within letter_e v n e = absurd (false≢true (sym n))
  command_within letter_r v n e = rule_added (v ! 1) _ e
  command_within letter_o v n e = rule_moved_lem (v ! 2) (v ! 3) (v ! 4) (v ! 5)
  command_within letter_d v n e = rules_fewer (is_rule (v ! 2) (v ! 3) (v ! 4))
  command_within letter_m v n e = left_within _ refl refl
  command_within letter_n v n e = left_within _ refl refl
  command_within letter_a v n e = left_within _ refl refl
  command_within letter_z v n e = left_within _ refl refl
  command_within letter_q v n e = left_within _ refl refl

-- ---- a line

unless_within : (o : Option Refusal) (b : Book) (k : Command) → all_within b ≡ true
    → (o ≡ None → all_within (edited b k) ≡ true) → all_within (unless o b k).book ≡ true
unfolding unless
unless_within None b k h f = f refl
unless_within (Some r) b k h f = h

read_within : (how : Sent) (b : Book) → all_within b ≡ true → (r : Reading) → is_e r ≡ false
    → all_within (after_reading how b r).book ≡ true
unfolding after_reading taken refusal taken_sent
read_within how b h (refused r) e = h
read_within how b h (asks l v) e =
    cases (elsewhere how (v ! 0))
    (λ f. ap (λ s. all_within s.book) (taken_elsewhere (elsewhere how (v ! 0)) b (command_of l v) f) ∙ h)
    (λ f.
    ap (λ s. all_within s.book) (taken_here (elsewhere how (v ! 0)) b (command_of l v) f)
    ∙ unless_within (refusal b (command_of l v)) b (command_of l v) h (command_within b h l v e))

-- ---- lines

pub stays_within : StaysWithin
unfolding after_sent step_sent sends_e some_e
stays_within b [] h n = h
stays_within b (l ∷ lines) h n =
    let c = neither (sends_e l.1) (some_e lines) (sym (has_cons (λ l. sends_e l.1) l lines) ∙ n) in
    stays_within (step_sent l.0 b l.1).book lines (read_within l.0 b h (reading l.1) c.0) c.1

empty_within : all_within empty ≡ true
unfolding all_within
empty_within = refl

pub within_alone : WithinAlone
within_alone lines = stays_within empty lines empty_within

-- ---- the order of a book's records carries no meaning

pub within_same : (b c : Book) → SameBook b c → all_within b ≡ all_within c
unfolding all_within
within_same b c s =
    same_every _ b.rules c.rules s.rules
    ∙ ap (λ p. every p c.rules) (fun_ext (λ r. same_has (holds_rule r) b.types c.types s.types))

-- ---- a type shortened under its rule

pub sound_outside : SoundOutside
unfolding answers after shortened_lines sound_lone all_within
sound_outside = record { taken = refl; sound = refl; outside = refl }
