-- Both ways to move a rule lead to the same records: those that O leaves.
use Rattle.std.proofs.Common.{ℕ, ◌≤◌, ◌≡◌, refl, ap, sym, ◌∙◌, true, false, List, leb-true}
use mathlib.Core.Bool.{false≢true}
use Rattle.tables.specs.Count.{count, has, every}
use Rattle.tables.proofs.Counts.{ands}
use Rattle.meaning.specs.Forms.{holds, sequence_form}
use Rattle.meaning.specs.Records.{Rule, Book, reorder}
use Rattle.meaning.specs.Keys.{is_rule}
use Rattle.meaning.specs.Refusals.{conditions}
use Rattle.meaning.specs.Edits.{rule_moved, edited, fits}
use Rattle.meaning.specs.Sound.{rule_fits}
use Rattle.meaning.specs.SameBook.{SameBook}
use Rattle.meaning.specs.Lone.{after_sent}
use Rattle.meaning.specs.declared.Sent.{Sent}
use Rattle.meaning.specs.Exercise.{same_rule, Way, by_reorder, by_entry, Moves, EitherWay}
use Rattle.meaning.specs.declared.Refusal.TheVariants.{AlreadyHeld}
use Rattle.meaning.proofs.First.{command_not_refused}
use Rattle.meaning.proofs.Keys.{rule_key_lem}
use Rattle.meaning.proofs.Listed.{not_so, has_map, has_without}
use Rattle.meaning.proofs.Good.{Good, good_of_sound}
use Rattle.meaning.proofs.ExerciseLines.{accepted}
use Rattle.meaning.proofs.ExerciseOutIn.{same_key, again}

-- a rule that is moved to a sequence that no rule of its type has
pub record Shifted (b : Book) (r : Rule) (new : ℕ) (c : Book) : Type 0 where
  pub good : Good b
  pub held : has (same_rule r) b.rules ≡ true
  pub free : has (is_rule r.type r.object new) b.rules ≡ false
  pub some_place : 1 ≤ new
  pub apart : new ≡ r.sequence → ⊥
  pub same : SameBook c (edited b (reorder r.type r.object r.sequence new))

from_one_lem : (n : ℕ) → holds sequence_form n ≡ true → 1 ≤ n
unfolding holds
from_one_lem n e = leb-true 1 n (search ands)

pub rule_from_one : (r : Rule) → rule_fits r ≡ true → 1 ≤ r.sequence
unfolding rule_fits
rule_from_one r e = from_one_lem r.sequence (search ands)

equal_same : (b c : Book) → c ≡ b → SameBook c b
equal_same b c e = record {
  types = λ p. ap (λ d. count p d.types) e;
  rules = λ p. ap (λ d. count p d.rules) e;
  rows = λ p. ap (λ d. count p d.rows) e;
  periods = λ p. ap (λ d. count p d.periods) e;
}

module _ (b : Book) (r : Rule) (new : ℕ) (lines : List (Sent × List ℕ)) (g : Good b) (held : has (same_rule r) b.rules ≡ true)
  where
    -- the rule itself stands at its sequence
    not_own : has (is_rule r.type r.object new) b.rules ≡ false → new ≡ r.sequence → ⊥
    not_own e z =
        false≢true
        (sym e ∙ ap (λ s. has (is_rule r.type r.object s) b.rules) z ∙ has_map (same_rule r) _ b.rules held (same_key r))

    by_way : Way b r new lines → Shifted b r new (after_sent b lines)
    unfolding fits conditions every
    by_way (by_reorder t) =
        let (f, e, l) = accepted t in
        let free = command_not_refused b (reorder r.type r.object r.sequence new) e AlreadyHeld in
        record {
          good = g;
          held = held;
          free = free;
          some_place = from_one_lem new f;
          apart = not_own free;
          same = equal_same _ (after_sent b lines) l;
        }
    by_way (by_entry apart out rows s day t) =
        let z = again b g r held new out rows s day (after_sent b lines) (accepted t) in
        record {
          good = g;
          held = held;
          free = not_so (has (is_rule r.type r.object new) b.rules) _ z.free
              (λ h.
              has_without (is_rule r.type r.object new) (is_rule r.type r.object r.sequence) b.rules h
              (λ x e.
              not_so (is_rule r.type r.object r.sequence x) false refl
              (λ k.
              absurd
              (apart
              ((rule_key_lem r.type r.object new x e).2 ∙ sym (rule_key_lem r.type r.object r.sequence x k).2)))));
          some_place = rule_from_one (rule_moved new r) z.range;
          apart = apart;
          same = z.same;
        }

pub shifted : {b : Book} {r : Rule} {new : ℕ} {lines : List (Sent × List ℕ)} → Moves b r new lines → Shifted b r new (after_sent b lines)
shifted {b = b} {r = r} {new = new} {lines = lines} m =
    by_way b r new lines (good_of_sound b m.sound) m.held m.way

pub either_way : EitherWay
either_way b r new lines others m n =
    let s = (shifted m).same in
    let t = (shifted n).same in
    record {
      types = λ p. s.types p ∙ sym (t.types p);
      rules = λ p. s.rules p ∙ sym (t.rules p);
      rows = λ p. s.rows p ∙ sym (t.rows p);
      periods = λ p. s.periods p ∙ sym (t.periods p);
    }
