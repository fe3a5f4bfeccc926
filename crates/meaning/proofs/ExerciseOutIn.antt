-- A rule taken out with its rows and entered again under a sequence leaves the records that O leaves; under its own
-- sequence, those that were there.
use Rattle.std.proofs.Common.{ℕ, ◌+◌, ◌≡◌, ap, sym, ◌∙◌, Bool, true, false, not, ◌&&◌, List, [], ◌∷◌, ◌++◌, map, arith, eqb-true, None}
use borrow.Author.Tests.{not-true, not-false}
use Rattle.tables.specs.Count.{bit, count, has, every, without, change, Same}
use Rattle.tables.proofs.Counts.{cases, ands, count_ext, count_keep, count_alter}
use Rattle.tables.proofs.Lists.{has_true, has_false, every_any, every_none}
use Rattle.tables.proofs.Least.{count_agree}
use Rattle.tables.proofs.Outs.{count_rest, count_out, alter_none}
use Rattle.meaning.specs.Records.{Rule, Row, Book, Command, add_row, delete_row, delete_rule, add_rule, reorder}
use Rattle.meaning.specs.Keys.{is_rule, of_rule, is_row}
use Rattle.meaning.specs.Refusals.{conditions, refusal}
use Rattle.meaning.specs.Edits.{rule_moved, row_moved, with_rows, edited, fits}
use Rattle.meaning.specs.Sound.{rule_fits}
use Rattle.meaning.specs.SameBook.{SameBook}
use Rattle.meaning.specs.Lone.{after_sent}
use Rattle.meaning.specs.Exercise.{same_rule, out_and_in, PutBack, PutBackAnswers}
use Rattle.meaning.specs.declared.Refusal.TheVariants.{NotFound, AlreadyHeld, Conflict}
use Rattle.meaning.proofs.First.{command_not_refused}
use Rattle.meaning.proofs.Keys.{rule_key_lem, rule_self, of_key, row_key_lem}
use Rattle.meaning.proofs.Listed.{count_less}
use Rattle.meaning.proofs.Order.{answers_sent_same}
use Rattle.meaning.proofs.Good.{Good, good_of_sound}
use Rattle.meaning.proofs.Kept.{good_edited}
use Rattle.meaning.proofs.ExerciseLines.{Accepted, accepted}
use Rattle.meaning.proofs.ExerciseJudged.{rule_after, row_after}

-- ---- the rows

-- what N for each of the rows leaves: rows that with those make up what was there
pub record RowsOut (b : Book) (out : List Row) (ks : List Command) (c : Book) : Type 0 where
  pub rest : List Row
  pub parts : (p : Row → Bool) → count p b.rows ≡ count p rest + count p out
  pub next : Accepted (with_rows rest b) ks c

row_once_lem : (b : Book) → Good b → (w : Row) → refusal b (delete_row w) ≡ None → count (is_row w) b.rows ≡ 1
unfolding conditions every
row_once_lem b g w e =
    let h = not-false (has (is_row w) b.rows) (command_not_refused b (delete_row w) e NotFound) in
    omega (arith, has_true (is_row w) b.rows h, g.row_once w)

pub rows_out : (out : List Row) (b c : Book) (ks : List Command) → Good b → Accepted b (map delete_row out ++ ks) c
    → RowsOut b out ks c
unfolding count edited
rows_out [] b c ks g a = record { rest = b.rows; parts = λ p. omega arith; next = a }
rows_out (w ∷ out) b c ks g (f, e, a) =
    let i = rows_out out (edited b (delete_row w)) c ks (good_edited b g (delete_row w) f e) a in
    record {
      rest = i.rest;
      parts = λ p.
          omega (
            arith,
            i.parts p,
            count_out (λ x. true) (is_row w) w (λ x t. row_key_lem w x) p b.rows (every_any b.rows) (row_once_lem b g w e),
          );
      next = i.next;
    }

-- what M for each of the rows leaves
pub record RowsIn (b : Book) (rows : List Row) (c : Book) : Type 0 where
  pub types : c.types ≡ b.types
  pub rules : c.rules ≡ b.rules
  pub periods : c.periods ≡ b.periods
  pub parts : (p : Row → Bool) → count p c.rows ≡ count p b.rows + count p rows

pub rows_in : (rows : List Row) (b c : Book) → Accepted b (map add_row rows) c → RowsIn b rows c
unfolding count edited
rows_in [] b c e =
    record {
      types = ap (λ d. d.types) e;
      rules = ap (λ d. d.rules) e;
      periods = ap (λ d. d.periods) e;
      parts = λ p. omega (arith, ap (λ d. count p d.rows) e);
    }
rows_in (w ∷ rows) b c (f, e, a) =
    let i = rows_in rows (edited b (add_row w)) c a in
    record { types = i.types; rules = i.rules; periods = i.periods; parts = λ p. omega (arith, i.parts p) }

-- ---- the rule

-- what is the same rule is that rule
pub same_rule_lem : (r x : Rule) → same_rule r x ≡ true → r ≡ x
unfolding same_rule
same_rule_lem r x e =
    let k = rule_key_lem r.type r.object r.sequence x (search ands) in
    let sign : r.sign ≡ x.sign = sym (eqb-true x.sign r.sign (search ands)) in
    let criteria : r.criteria ≡ x.criteria = sym (eqb-true x.criteria r.criteria (search ands)) in
    let first : r.first ≡ x.first = sym (eqb-true x.first r.first (search ands)) in
    let last : r.last ≡ x.last = sym (eqb-true x.last r.last (search ands)) in
    λ i. record {
      type = k.0 i;
      object = k.1 i;
      sequence = k.2 i;
      sign = sign i;
      criteria = criteria i;
      first = first i;
      last = last i;
    }

pub same_key : (r x : Rule) → same_rule r x ≡ true → is_rule r.type r.object r.sequence x ≡ true
unfolding same_rule
same_key r x e = search ands

module _ (b : Book) (g : Good b) (r : Rule) (held : has (same_rule r) b.rules ≡ true) where
  abbrev its : Rule → Bool
  its = is_rule r.type r.object r.sequence

  -- each rule of the book with its key is that rule
  pub only_it : Rule → Bool
  only_it x = not (its x && not (same_rule r x))

  its_once : count its b.rules ≡ 1
  its_once =
      omega (
        arith,
        has_true (same_rule r) b.rules held,
        count_less (same_rule r) its b.rules (λ x. same_key r x),
        g.rule_once r.type r.object r.sequence,
      )

  pub only_it_lem : every only_it b.rules ≡ true
  unfolding only_it
  only_it_lem =
      every_none (λ x. its x && not (same_rule r x)) b.rules
      (omega (
        arith,
        its_once,
        has_true (same_rule r) b.rules held,
        count_rest its (same_rule r) b.rules (λ x. same_key r x),
      ))

  pub it_is : (x : Rule) → only_it x ≡ true → its x ≡ true → r ≡ x
  unfolding only_it
  it_is x e t = same_rule_lem r x (not-false (same_rule r x) (not-true (not (same_rule r x)) (rw t at e)))

  -- ---- both

  module _ (new : ℕ) where
    abbrev moved : Book
    moved = edited b (reorder r.type r.object r.sequence new)

    abbrev there : Rule → Rule
    there = rule_after r.type r.object r.sequence new

    abbrev row_there : Row → Row
    row_there = row_after r.type r.object r.sequence new

    -- the others stay, and it is counted as it is entered again
    rules_again : (p : Rule → Bool)
        → count p moved.rules ≡ count p (without its b.rules) + bit (p (rule_moved new r))
    unfolding edited change without
    rules_again p =
        let l = b.rules in
        let others : (x : Rule) → (not (its x) && p (there x)) ≡ (not (its x) && p x) = λ x. cases (its x) (λ e. rw e) (λ e. rw e) in
        let it : p (there r) ≡ p (rule_moved new r) = rw (rule_self r) in
        count_alter p there l
        ∙ count_out only_it its r it_is (λ x. p (there x)) l only_it_lem its_once
        ∙ rw (count_keep (λ x. p (there x)) (λ x. not (its x)) l, count_keep p (λ x. not (its x)) l, count_ext _ _ l others, it)

    -- where none of the rows is the rule's
    rows_stay : (p : Row → Bool) (l : List Row) → has (of_rule r.type r.object r.sequence) l ≡ false
        → count (λ w. p (row_there w)) l ≡ count p l
    rows_stay p l e =
        count_agree _ _ _ l (every_none _ l (has_false _ l e))
        (λ w t. rw (not-true (of_rule r.type r.object r.sequence w) t))

    pub record Again (c : Book) : Type 0 where
      pub same : SameBook c moved
      pub range : rule_fits (rule_moved new r) ≡ true
      pub free : has (is_rule r.type r.object new) (without its b.rules) ≡ false

    pub again : (out rows : List Row) → Same rows (change (of_rule r.type r.object r.sequence) (row_moved new) out)
        → (day : ℕ) (c : Book) → Accepted b (out_and_in r out day (rule_moved new r) rows) c → Again c
    unfolding edited change fits conditions every
    again out rows s day c a =
        let o = rows_out out b c _ g a in
        let d = with_rows o.rest b in
        let (f, e, m) = o.next in
        let (f', e', a') = m in
        let i = rows_in rows (edited (edited d (delete_rule r.type r.object r.sequence)) (add_rule day (rule_moved new r))) c a' in
        let gone = command_not_refused d (delete_rule r.type r.object r.sequence) e Conflict in
        record {
          same = record {
            types = λ p. ap (count p) i.types;
            rules = λ p. ap (count p) i.rules ∙ sym (rules_again p);
            rows = λ p.
                let z = o.parts (λ w. p (row_there w)) in
                omega (arith, i.parts p, s p, count_alter p row_there out, count_alter p row_there b.rows, z, rows_stay p o.rest gone);
            periods = λ p. ap (count p) i.periods;
          };
          range = f';
          free = command_not_refused (edited d (delete_rule r.type r.object r.sequence)) (add_rule day (rule_moved new r)) e' AlreadyHeld;
        }

  -- under its own sequence nothing moves
  own_rule : (x : Rule) → rule_after r.type r.object r.sequence r.sequence x ≡ x
  own_rule x =
      cases (its x)
      (λ e. rw e (ap (λ z. rule_moved z x) (rule_key_lem r.type r.object r.sequence x e).2))
      (λ e. rw e)

  own_row : (w : Row) → row_after r.type r.object r.sequence r.sequence w ≡ w
  own_row w =
      cases (of_rule r.type r.object r.sequence w)
      (λ e. rw e (ap (λ z. row_moved z w) (of_key r.type r.object r.sequence w e).2))
      (λ e. rw e)

  pub back : (out rows : List Row) → Same rows out → (day : ℕ) (c : Book) → Accepted b (out_and_in r out day r rows) c
      → SameBook c b
  unfolding edited change
  back out rows s day c a =
      let z = (again r.sequence out rows (λ p. s p ∙ sym (alter_none _ out own_row p)) day c a).same in
      record {
        types = z.types;
        rules = λ p. z.rules p ∙ alter_none _ b.rules own_rule p;
        rows = λ p. z.rows p ∙ alter_none _ b.rows own_row p;
        periods = z.periods;
      }

-- ---- lines

pub put_back : PutBack
put_back b e r held out rows s day lines t =
    back b (good_of_sound b e) r held out rows s day (after_sent b lines) (accepted t)

pub put_back_answers : PutBackAnswers
put_back_answers b e r held out rows s day lines t later =
    answers_sent_same later (after_sent b lines) b (put_back b e r held out rows s day lines t)
