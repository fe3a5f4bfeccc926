-- The order of a lone book's records carries no meaning: books with the same records give the same answers, line by
-- line and for whole lists.
use Rattle.std.proofs.Common.{ℕ, ◌≡◌, refl, ap, ap₂, sym, subst, Bool, true, false, List, [], ◌∷◌, Option, Some, None}
use Rattle.tables.proofs.Lists.{same_length, same_cons, same_without, same_change}
use Rattle.meaning.specs.Records.{◌!◌, Book, Question, Command, command_of, question_in, add_type, end_type, add_rule, reorder, delete_rule, add_row, delete_row, add_period, end_period, ask}
use Rattle.meaning.specs.Reading.{Reading, refused, asks, reading}
use Rattle.meaning.specs.Keys.{is_type, is_rule, of_rule, is_row, is_period, clash}
use Rattle.meaning.specs.Refusals.{type_outside, leaves, period_outside, other_criteria, first_of, conditions, refusal}
use Rattle.meaning.specs.Edits.{type_until, rule_moved, row_moved, period_until, edited}
use Rattle.meaning.specs.Lone.{Step, elsewhere, replied, reply, unless, taken_sent, after_reading, step_sent, step, answers_sent, told, answers_from}
use Rattle.meaning.specs.SameBook.{SameBook}
use Rattle.meaning.proofs.OrderJudged.{types_has, rules_has, rows_has, periods_has, judged_same}
use Rattle.meaning.specs.declared.Refusal.{Refusal}
use Rattle.meaning.specs.declared.Wishes.{Wishes}
use Rattle.meaning.specs.Status.{answer_to}
use Rattle.meaning.specs.declared.Sent.{Sent}
use Rattle.meaning.specs.declared.Sent.TheVariants.{Alone}

module _ (b c : Book) (s : SameBook b c) where
  conditions_same : (k : Command) → conditions b k ≡ conditions c k
  unfolding conditions
  conditions_same (add_type day t) =
      rw (types_has b c s (is_type t.type t.object), same_length b.types c.types s.types)
  conditions_same (end_type day type object last) = rw (types_has b c s (is_type type object), types_has b c s (type_outside type object last))
  conditions_same (add_rule day r) =
      rw (
        types_has b c s (is_type r.type r.object),
        rules_has b c s (is_rule r.type r.object r.sequence),
        types_has b c s (leaves r),
        same_length b.rules c.rules s.rules,
      )
  conditions_same (reorder type object sequence new) = rw (rules_has b c s (is_rule type object sequence), rules_has b c s (is_rule type object new))
  conditions_same (delete_rule type object sequence) = rw (rules_has b c s (is_rule type object sequence), rows_has b c s (of_rule type object sequence))
  conditions_same (add_row w) =
      rw (
        rules_has b c s (is_rule w.type w.object w.sequence),
        rules_has b c s (other_criteria w),
        rows_has b c s (is_row w),
        same_length b.rows c.rows s.rows,
      )
  conditions_same (delete_row w) = rw (rows_has b c s (is_row w))
  conditions_same (add_period day p) = rw (periods_has b c s (clash p), same_length b.periods c.periods s.periods)
  conditions_same (end_period day kind number code first last) =
      rw (periods_has b c s (is_period kind number code first), periods_has b c s (period_outside kind number code first last))
  conditions_same (ask q w) = refl

  pub refusal_same : (k : Command) → refusal b k ≡ refusal c k
  unfolding refusal
  refusal_same k = ap first_of (conditions_same k)

  -- the lists that the edit leaves are the same by what is given
  pub edited_same : (k : Command) → SameBook (edited b k) (edited c k)
  unfolding edited
  edited_same (add_type day t) = search (same_cons t b.types c.types s.types)
  edited_same (end_type day type object last) =
      search (same_change (is_type type object) (type_until last) b.types c.types s.types)
  edited_same (add_rule day r) = search (same_cons r b.rules c.rules s.rules)
  edited_same (reorder type object sequence new) =
      search (
        same_change (is_rule type object sequence) (rule_moved new) b.rules c.rules s.rules,
        same_change (of_rule type object sequence) (row_moved new) b.rows c.rows s.rows,
      )
  edited_same (delete_rule type object sequence) =
      search (same_without (is_rule type object sequence) b.rules c.rules s.rules)
  edited_same (add_row w) = search (same_cons w b.rows c.rows s.rows)
  edited_same (delete_row w) = search (same_without (is_row w) b.rows c.rows s.rows)
  edited_same (add_period day p) = search (same_cons p b.periods c.periods s.periods)
  edited_same (end_period day kind number code first last) =
      search (same_change (is_period kind number code first) (period_until last) b.periods c.periods s.periods)
  edited_same (ask q w) = s

  replied_same : (q : Option (Question × Wishes)) → replied b q ≡ replied c q
  unfolding replied
  replied_same None = refl
  replied_same (Some (q, w)) = ap (λ v. answer_to v w) (judged_same b c s q)

  reply_same : (k : Command) → reply b k ≡ reply c k
  unfolding reply
  reply_same k = replied_same (question_in k)

-- ---- lines

pub record SameStep (s t : Step) : Type 0 where
  pub answer : s.answer ≡ t.answer
  pub book : SameBook s.book t.book

unless_same : (b c : Book) → SameBook b c → (o : Option Refusal) (k : Command)
    → SameStep (unless o b k) (unless o c k)
unfolding unless
unless_same b c s None k = record { answer = reply_same b c s k; book = edited_same b c s k }
unless_same b c s (Some r) k = record { answer = refl; book = s }

-- told whether the line names another depository than its batch
taken_same : (b c : Book) → SameBook b c → (e : Bool) (k : Command) → SameStep (taken_sent e b k) (taken_sent e c k)
unfolding taken_sent refusal
taken_same b c s true k = record { answer = refl; book = s }
taken_same b c s false k =
    subst (λ o. SameStep (unless o b k) (unless (refusal c k) c k)) (sym (refusal_same b c s k))
    (unless_same b c s (refusal c k) k)

after_same : (how : Sent) (b c : Book) → SameBook b c → (r : Reading)
    → SameStep (after_reading how b r) (after_reading how c r)
unfolding after_reading
after_same how b c s (refused r) = record { answer = refl; book = s }
after_same how b c s (asks l v) = taken_same b c s (elsewhere how (v ! 0)) (command_of l v)

pub sent_same : (how : Sent) (b c : Book) → SameBook b c → (line : List ℕ)
    → SameStep (step_sent how b line) (step_sent how c line)
unfolding step_sent
sent_same how b c s line = after_same how b c s (reading line)

pub step_same : (b c : Book) → SameBook b c → (line : List ℕ) → SameStep (step b line) (step c line)
unfolding step
step_same b c s line = sent_same Alone b c s line

-- the answers to lines, each told how it was sent
pub answers_sent_same : (lines : List (Sent × List ℕ)) (b c : Book) → SameBook b c
    → answers_sent b lines ≡ answers_sent c lines
unfolding answers_sent
answers_sent_same [] b c s = refl
answers_sent_same (l ∷ lines) b c s =
    let t = sent_same l.0 b c s l.1 in
    ap₂ ◌∷◌ t.answer (answers_sent_same lines (step_sent l.0 b l.1).book (step_sent l.0 c l.1).book t.book)

pub answers_same : (lines : List (List ℕ)) (b c : Book) → SameBook b c → answers_from b lines ≡ answers_from c lines
unfolding answers_from
answers_same lines b c s = answers_sent_same (told Alone lines) b c s
