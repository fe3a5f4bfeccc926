-- Every text can be handed to a desk in pieces, in whatever pieces it comes.
use Prim.Native.Nat.{ℕ, ◌+◌, ◌*◌}
use mathlib.Core.Path.{refl, sym, ap, ◌∙◌}
use mathlib.Core.List.{List, [], ◌∷◌, ◌++◌, append-nil}
use native.Mathlib.Omega.{arith}
use native.Mathlib.Nat.{add-zero}
use lib.ListN.{length, take, replicate, length-replicate, length-append, length-take}
use lib.Seq.{take_all}
use borrow.Author.Tests.{le-leb}
use Rattle.std.specs.Prelude.{Some}
use Rattle.meaning.specs.Desk.{output}
use Rattle.meaning.specs.declared.Sent.TheVariants.{Alone}
use Rattle.lines.specs.Ended.{ended, begun, last_line, short}
use Rattle.lines.specs.Many.{answers_by, book_by, laid}
use Rattle.lines.specs.Pieces.{Steps, End}
use Rattle.lines.specs.Whole.{Reads, last, more, EveryText}
use Rattle.lines.specs.declared.Desk.{Desk}
use Rattle.lines.specs.declared.Step.{Step}
use Rattle.lines.proofs.Steps.{laid_none, laid_size}

-- a step with an answer space that is large enough
module _ (stands : List ℕ) (lines : List (List ℕ)) (kept : List ℕ) (d : Desk) (b t : List ℕ) where
  abbrev space : List ℕ
  space = replicate (33 * length stands) 0

  abbrev answers : List ℕ
  answers = output (answers_by Alone d.sound b lines)

  abbrev result : Step
  result = record { desk = record { held = length kept; sound = d.sound }; written = length answers }

  step : Steps stands lines kept d b t space (Some result) (book_by Alone d.sound b lines) (laid t 0 kept) (laid space 0 answers)
  step = record {
    room = sym (le-leb (33 * length stands) (length space) (omega (arith, length-replicate {A = ℕ} (33 * length stands) 0)));
    takes = record { book = refl; out = refl; written = refl; text = refl; desk = refl; few = omega (arith, laid_size space 0 answers (omega arith)) };
    leaves = tt;
  }

read_all : (d : Desk) (t piece : List ℕ) → Reads d t piece (take d.held t ++ piece)
read_all d t piece =
    take_all (d.held + length piece) (take d.held t ++ piece)
    (omega (arith, length-append (take d.held t) piece, length-take d.held t))

pub every_text : EveryText
every_text d b t [] =
    let stands = take d.held t in
    let s : End d b t (space stands (last_line stands) [] d b t) (Some (result stands (last_line stands) [] d b t)) (book_by Alone d.sound b (last_line stands)) (laid (space stands (last_line stands) [] d b t) 0 (answers stands (last_line stands) [] d b t)) =
    rw (← laid_none t 0) at (step stands (last_line stands) [] d b t) in
    record { written = _; after = _; fed = last (ap (λ k. take k t) (add-zero d.held) ∙ sym (append-nil (take d.held t))) s }
every_text d b t (piece ∷ pieces) =
    let t₁ = take d.held t ++ piece in
    let stands = take (d.held + length piece) t₁ in
    let ls = ended stands in
    let kept = short (begun stands) in
    let i = every_text (result stands ls kept d b t₁).desk (book_by Alone d.sound b ls) (laid t₁ 0 kept) pieces in
    record { written = _; after = i.after; fed = more (read_all d t piece) (step stands ls kept d b t₁) i.fed }
