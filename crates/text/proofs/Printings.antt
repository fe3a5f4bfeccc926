-- Bytes put one after the other make the printed text.
use Rattle.std.proofs.Common.{ℕ, ◌+◌, ◌≤◌, ◌<◌, ◌≡◌, refl, ap, sym, ◌∙◌, Bool, true, false, cond, List, [], ◌∷◌, ◌++◌, append_assoc, append-nil, arith, length, length-append, Option}
use Rattle.meaning.specs.Text.{numeral}
use Rattle.meaning.specs.Refusals.{number_of}
use Rattle.meaning.specs.Judging.{rejected}
use Rattle.meaning.specs.Printing.{verdict_text, deciding_numbers, verdict_numbers, text_of, numbers_of, listed, status_text, end_of, printed}
use Rattle.meaning.specs.declared.Refusal.{Refusal}
use Rattle.meaning.specs.declared.Refusal.TheVariants.{UnsoundBook, BadLine, NoLetter, FieldCount, BadField, TooEarly, NotFound, AlreadyHeld, Conflict, QuotaFull, BatchTooLarge, OtherDepository, LeavesType}
use Rattle.meaning.specs.declared.Deciding.{Deciding}
use Rattle.meaning.specs.declared.Verdict.{Verdict}
use Rattle.meaning.specs.declared.Answer.{Answer}
use Rattle.meaning.specs.declared.Answer.TheVariants.{Taken, Refused, Judged, WithStatus}
use Rattle.meaning.proofs.Shapes.{Each}
use Rattle.meaning.proofs.Holding.{status_last}
use Rattle.writing.specs.Written.{added_all}
use Rattle.writing.proofs.Texts.{then, all_taken, fits}
use Rattle.writing.proofs.Widths.{listed_short}
use Rattle.text.specs.Printed.{deciding_text, PrintsIn, Prints, PrintsVerdict}

-- ---- an answer's letters

three_bytes : (t : Bool) → length (verdict_text t) ≤ 3
three_bytes true = omega arith
three_bytes false = omega arith

few_letters : (a : Answer) → length (text_of a) ≤ 3
unfolding text_of
few_letters Taken = omega arith
few_letters (Refused r) = omega arith
few_letters (Judged v) = three_bytes (rejected v)
few_letters (WithStatus v s) = three_bytes (rejected v)

-- a text more, where both have at most so many bytes
written_more : {most : ℕ} (t u : List ℕ) (a : Answer) {r : List ℕ} → r ≡ added_all t u → printed a ≡ t ++ u → length (t ++ u) ≤ most → most ≤ 32
    → PrintsIn most a r
written_more t u a {r} e f few h =
    let n : length t + length u ≤ 32 = omega (arith, length-append t u) in
    let g : r ≡ printed a = e ∙ all_taken u t (omega arith) ∙ fits (t ++ u) (omega arith) ∙ sym f in
    record { text = g; few = rw (g, f) few }

-- ---- and its numbers, of one byte each

-- an answer that ends with them
prints : (a : Answer) {p r : List ℕ} → end_of a ≡ [] → r ≡ added_all p (listed (numbers_of a)) → p ≡ text_of a
    → Each (λ n. n < 256) (numbers_of a) → length (numbers_of a) ≤ 6 → PrintsIn 30 a r
unfolding printed
prints a z e f s h =
    let t = text_of a in
    let n = listed (numbers_of a) in
    let g : printed a ≡ t ++ n = ap (λ x. t ++ (n ++ x)) z ∙ ap (λ x. t ++ x) (append-nil n) in
    written_more t n a (e ∙ ap (λ x. added_all x n) f) g
    (omega (arith, length-append t n, few_letters a, listed_short (numbers_of a) s))
    (omega arith)

wider : {a : Answer} {r : List ℕ} → PrintsIn 30 a r → Prints a r
wider h = record { text = h.text; few = omega (arith, h.few) }

pub taken : {x : Answer} {r : List ℕ} → x ≡ Taken → r ≡ 75 ∷ [] → Prints x r
unfolding text_of numbers_of end_of listed added_all
taken e a = rw e (wider (prints Taken refl a refl tt (omega arith)))

one_byte : (r : Refusal) → number_of r < 256
one_byte UnsoundBook = omega arith
one_byte BadLine = omega arith
one_byte NoLetter = omega arith
one_byte FieldCount = omega arith
one_byte BadField = omega arith
one_byte TooEarly = omega arith
one_byte NotFound = omega arith
one_byte AlreadyHeld = omega arith
one_byte Conflict = omega arith
one_byte QuotaFull = omega arith
one_byte BatchTooLarge = omega arith
one_byte OtherDepository = omega arith
one_byte LeavesType = omega arith

pub refusal : {x : Answer} {e : Refusal} {p r : List ℕ} {n m : ℕ} → x ≡ Refused e → r ≡ added_all p (listed (m ∷ [])) → m ≡ n → n ≡ number_of e
    → p ≡ 70 ∷ [] → Prints x r
unfolding text_of numbers_of end_of
refusal {e = e} w f g h a =
    let k = rw (g, h) at f in
    rw w (wider (prints (Refused e) refl k a (one_byte e, tt) (omega arith)))

-- those of a verdict are two and two
listed_more : (a b : ℕ) (ns : List ℕ) → listed (a ∷ b ∷ []) ++ listed ns ≡ listed (a ∷ b ∷ ns)
unfolding listed
listed_more a b ns = rw (append-nil (numeral b), append_assoc (numeral a) (44 ∷ numeral b) (listed ns)) refl

six : (v : Verdict) → printed (Judged v) ≡ verdict_text (rejected v) ++ (deciding_text v.rejection ++ (deciding_text v.validation ++ deciding_text v.party))
unfolding printed text_of numbers_of end_of deciding_text
six v =
    let a = deciding_numbers v.rejection in
    let b = deciding_numbers v.validation in
    let d = deciding_numbers v.party in
    let last = d.0 ∷ d.1 ∷ [] in
    let t = verdict_text (rejected v) in
    rw (append-nil (listed (verdict_numbers v)), listed_more b.0 b.1 last, listed_more a.0 a.1 (b.0 ∷ b.1 ∷ last)) refl

-- a decision's are of one byte each
pub deciding_few : (d : Option Deciding) {m : ℕ × ℕ} → m ≡ deciding_numbers d → m.0 < 256 → m.1 < 256 → length (deciding_text d) ≤ 8
unfolding deciding_text
deciding_few d {m} e g h = rw (← e) (listed_short (m.0 ∷ m.1 ∷ []) (g, (h, tt)))

pub verdict : (v : Verdict) {t : Bool} {p q u r : List ℕ} → r ≡ added_all u (deciding_text v.party)
    → u ≡ added_all q (deciding_text v.validation) → q ≡ added_all p (deciding_text v.rejection)
    → p ≡ verdict_text t → t ≡ rejected v → length (deciding_text v.party) ≤ 8
    → length (deciding_text v.validation) ≤ 8 → length (deciding_text v.rejection) ≤ 8 → PrintsVerdict v r
unfolding printed text_of numbers_of end_of listed deciding_text
verdict v {p = p} {q} {u} {r} e f g h k x y z =
    let t = verdict_text (rejected v) in
    let a = deciding_text v.rejection in
    let b = deciding_text v.validation in
    let d = deciding_text v.party in
    let all : r ≡ added_all t (a ++ (b ++ d)) = rw (e, f, g, h, k, then t a b) (then t (a ++ b) d ∙ ap (λ n. added_all t n) (append_assoc a b d)) in
    written_more t (a ++ (b ++ d)) (Judged v) all (six v)
    (omega (arith, length-append t (a ++ (b ++ d)), length-append a (b ++ d), length-append b d, three_bytes (rejected v), x, y, z))
    (omega arith)

-- ---- the status goes last

status_letters : (s : Bool) → status_text s ≡ 44 ∷ cond s 89 78 ∷ []
status_letters true = refl
status_letters false = refl

pub status_printed : (v : Verdict) (s : Bool) {p r : List ℕ} {c : ℕ} → r ≡ added_all p (44 ∷ c ∷ []) → c ≡ cond s 89 78
    → PrintsVerdict v p → Prints (WithStatus v s) r
status_printed v s {p} {r} {c} e f h =
    let t = printed (Judged v) in
    let u = 44 ∷ cond s 89 78 ∷ [] in
    let l : printed (WithStatus v s) ≡ t ++ u = status_last v s ∙ ap (λ x. t ++ x) (status_letters s) in
    let n : length t ≤ 30 = rw (← h.text) h.few in
    written_more t u (WithStatus v s) (rw (e, f, h.text) refl) l (omega (arith, length-append t u)) (omega arith)

-- the letter that the code chooses
pub letter_y : {s : Bool} {c : ℕ} → s ≡ true → c ≡ 89 → c ≡ cond s 89 78
letter_y e f = rw e f

pub letter_n : {s : Bool} {c : ℕ} → s ≡ false → c ≡ 78 → c ≡ cond s 89 78
letter_n e f = rw e f

pub with_status : {x : Answer} {v : Verdict} {s : Bool} {r : List ℕ} → x ≡ WithStatus v s → Prints (WithStatus v s) r → Prints x r
with_status e h = rw e h
