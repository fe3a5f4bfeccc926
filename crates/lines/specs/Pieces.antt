-- A text that comes in pieces, and a desk that answers its lines as they are ended. Assumes nothing.
use Rattle.std.specs.Prelude.{ℕ, ◌+◌, ◌*◌, ◌≤◌, ◌≡◌, Bool, List, [], leb, length, take, Option, IfSome, IfNone}
use Rattle.std.specs.Option.{is_some}
use Rattle.meaning.specs.Desk.{output}
use Rattle.meaning.specs.declared.Sent.TheVariants.{Alone}
use Rattle.book.specs.Sound.{sound}
use Rattle.lines.specs.Ended.{ended, begun, last_line, short}
use Rattle.lines.specs.Many.{laid, answers_by, book_by}
use Rattle.lines.specs.declared.Desk.{Desk}
use Rattle.lines.specs.declared.Step.{Step}

-- before the first piece no byte is held, and whether the book is sound is found once for the whole text
abbrev pub at_first : List ℕ → Desk
at_first book = record { held = 0; sound = sound book }

-- an answer takes at most 33 bytes, and a line has at least one byte: 33 for each byte of a text take the answers to it
abbrev pub room_for : List ℕ → List ℕ → Bool
room_for text out = leb (33 * length text) (length out)

-- lines are answered over a book b, and of the text t some bytes are kept at its front; o is the answer space
pub record Takes (lines : List (List ℕ)) (kept : List ℕ) (d : Desk) (b t o : List ℕ) (r : Step) (b' t' o' : List ℕ) : Type 0 where
  pub book : b' ≡ book_by Alone d.sound b lines
  pub out : o' ≡ laid o 0 (output (answers_by Alone d.sound b lines))
  pub written : r.written ≡ length (output (answers_by Alone d.sound b lines))
  pub text : t' ≡ laid t 0 kept
  pub desk : r.desk ≡ record { held = length kept; sound = d.sound }
  pub few : r.written ≤ length o'

-- nothing is done
pub record Leaves (b t o b' t' o' : List ℕ) : Type 0 where
  pub book : b' ≡ b
  pub out : o' ≡ o
  pub text : t' ≡ t

-- a step: there is one where there is room for the answers to the bytes that stand; where there is none, nothing is
-- done
pub record Steps (stands : List ℕ) (lines : List (List ℕ)) (kept : List ℕ) (d : Desk) (b t o : List ℕ) (r : Option Step) (b' t' o' : List ℕ) : Type 0 where
  pub room : is_some r ≡ room_for stands o
  pub takes : IfSome r (λ s. Takes lines kept d b t o s b' t' o')
  pub leaves : IfNone r (Leaves b t o b' t' o')

-- a piece came behind the bytes that are held: the lines that are ended now are answered, and the line that is begun is
-- kept, as much of it as its answer depends on
abbrev pub Piece : Desk → ℕ → List ℕ → List ℕ → List ℕ → Option Step → List ℕ → List ℕ → List ℕ → Type 0
Piece d came book text out r book' text' out' =
    let stands = take (d.held + came) text in
    Steps stands (ended stands) (short (begun stands)) d book text out r book' text' out'

-- the end of input: the line that is begun is answered, if there is one, and nothing is held
abbrev pub End : Desk → List ℕ → List ℕ → List ℕ → Option Step → List ℕ → List ℕ → Type 0
End d book text out r book' out' =
    let stands = take d.held text in Steps stands (last_line stands) [] d book text out r book' text out'
