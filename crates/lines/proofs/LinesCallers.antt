-- What a caller of the desk's functions uses.
use Prim.Native.Nat.{ℕ, ◌*◌, ◌≤◌}
use mathlib.Core.Path.{◌≡◌, sym, ◌∙◌}
use mathlib.Core.Bool.{true}
use mathlib.Core.List.{List}
use lib.ListN.{length, take}
use lib.Seq.{length-take-le}
use borrow.Author.Tests.{le-leb}
use Rattle.std.specs.Prelude.{Option, Some}
use Rattle.std.specs.Option.{is_some}
use Rattle.lines.specs.Pieces.{Steps}
use Rattle.lines.specs.declared.Desk.{Desk}
use Rattle.lines.specs.declared.Step.{Step}

module _ {stands kept b t o b' t' o' : List ℕ} {lines : List (List ℕ)} {d : Desk} where
  -- to lend the answers on
  pub counted : {r : Step} → Steps stands lines kept d b t o (Some r) b' t' o' → r.written ≡ length (take r.written o')
  counted {r} s = sym (length-take-le r.written o' s.takes.few)

  pub has_room : {r : Option Step} → Steps stands lines kept d b t o r b' t' o' → 33 * length stands ≤ length o
      → is_some r ≡ true
  has_room s h = s.room ∙ le-leb (33 * length stands) (length o) h
