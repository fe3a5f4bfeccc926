-- Bytes and numbers stored one behind the other, as the loops store them.
use Rattle.std.proofs.Common.{ℕ, zero, suc, ◌+◌, ◌*◌, ◌≤◌, ◌<◌, ◌≡◌, List, [], ◌∷◌, ◌++◌, length, get_or, set, drop, refl, sym, ap, ◌∙◌, arith, ap₂, mod-eq_of_lt, drop-cons, drop_of_length-le, add-one}
use Rattle.std.proofs.lemmas.List.{set_past}
use Rattle.tables.specs.Bytes.{Width, one, digits, bytes_of, puts}
use Rattle.tables.proofs.Bytes.{puts_append}
use Rattle.stores.specs.Numbers.{bytes, all_bytes}
use Rattle.stores.specs.declared.Number.{Number}
use Rattle.stores.specs.declared.Number.TheVariants.{One, Two, Three, Four}

-- ---- bytes, from byte k on

puts_cons : (v : ℕ) (vs b : List ℕ) (at k : ℕ) → puts b at k (v ∷ vs) ≡ puts (set b (at + k) v) at (k + 1) vs
unfolding puts
puts_cons v vs b at k = refl

pub byte_put : (vs b : List ℕ) (at k : ℕ) → k < length vs
    → puts (set b (at + k) (get_or vs k 0)) at (k + 1) (drop (k + 1) vs) ≡ puts b at k (drop k vs)
byte_put vs b at k l =
    sym (ap (puts b at k) (drop-cons vs k 0 l ∙ ap (λ n. get_or vs k 0 ∷ drop n vs) (sym (add-one k)))
    ∙ puts_cons (get_or vs k 0) (drop (k + 1) vs) b at k)

-- past the end of the book
pub byte_left : (vs b : List ℕ) (at k : ℕ) → k < length vs → length b ≤ at + k
    → puts b at (k + 1) (drop (k + 1) vs) ≡ puts b at k (drop k vs)
byte_left vs b at k l h =
    ap (λ c. puts c at (k + 1) (drop (k + 1) vs)) (sym (set_past b (at + k) (get_or vs k 0) h)) ∙ byte_put vs b at k l

pub bytes_end : (vs b : List ℕ) (at k : ℕ) → length vs ≤ k → puts b at k (drop k vs) ≡ b
unfolding puts
bytes_end vs b at k l = ap (puts b at k) (drop_of_length-le vs l)

-- ---- numbers, from number k on

-- where the offset is counted from does not matter
puts_from : (vs b : List ℕ) (at j k : ℕ) → puts b (at + j) k vs ≡ puts b at (j + k) vs
unfolding puts
puts_from [] b at j k = refl
puts_from (v ∷ vs) b at j k =
    let e : at + j + k ≡ at + (j + k) = omega arith in
    let f : j + (k + 1) ≡ j + k + 1 = omega arith in
    ap (λ n. puts (set b n v) (at + j) (k + 1) vs) e ∙ puts_from vs (set b (at + (j + k)) v) at j (k + 1)
    ∙ ap (λ n. puts (set b (at + (j + k)) v) at n vs) f

pub puts_behind : (us vs b : List ℕ) (at : ℕ) → puts (puts b at 0 us) (at + length us) 0 vs ≡ puts b at 0 (us ++ vs)
puts_behind us vs b at =
    let e : length us + 0 ≡ 0 + length us = omega arith in
    puts_from vs (puts b at 0 us) at (length us) 0
    ∙ ap (λ n. puts (puts b at 0 us) at n vs) e ∙ sym (puts_append us vs b at 0)

all_cons : (n : Number) (ns : List Number) → all_bytes (n ∷ ns) ≡ bytes n ++ all_bytes ns
unfolding all_bytes
all_cons n ns = refl

number_put : (ns : List Number) (d : Number) (b : List ℕ) (at k : ℕ) → k < length ns
    → puts (puts b at 0 (bytes (get_or ns k d))) (at + length (bytes (get_or ns k d))) 0 (all_bytes (drop (k + 1) ns))
    ≡ puts b at 0 (all_bytes (drop k ns))
number_put ns d b at k l =
    puts_behind (bytes (get_or ns k d)) (all_bytes (drop (k + 1) ns)) b at
    ∙ ap (puts b at 0)
    (sym (all_cons (get_or ns k d) (drop (k + 1) ns))
    ∙ ap all_bytes (sym (drop-cons ns k d l ∙ ap (λ n. get_or ns k d ∷ drop n ns) (sym (add-one k)))))

pub bytes_few : (n : Number) → length (bytes n) ≤ 4
unfolding bytes digits
bytes_few (One v) = omega arith
bytes_few (Two v) = omega arith
bytes_few (Three v) = omega arith
bytes_few (Four v) = omega arith

-- one turn
pub numbers_put : (ns : List Number) (d : Number) (b b' : List ℕ) (at at' k start : ℕ) (all : List ℕ) → k < length ns
    → b' ≡ puts b at 0 (bytes (get_or ns k d)) → at' ≡ at + length (bytes (get_or ns k d)) → at ≤ start + 4 * k
    → puts b at 0 (all_bytes (drop k ns)) ≡ all
    → (at' ≤ start + 4 * (k + 1)) × (puts b' at' 0 (all_bytes (drop (k + 1) ns)) ≡ all)
numbers_put ns d b b' at at' k start all l hb ha h e =
    let few = bytes_few (get_or ns k d) in (
      omega (arith, ha, few),
      rw (hb, ha) (number_put ns d b at k l ∙ e),
    )

pub numbers_end : (ns : List Number) (b : List ℕ) (at k : ℕ) → length ns ≤ k → puts b at 0 (all_bytes (drop k ns)) ≡ b
unfolding puts all_bytes
numbers_end ns b at k l = ap (λ r. puts b at 0 (all_bytes r)) (drop_of_length-le ns l)

-- ---- bytes that are listed

unfoldable pub ones : ℕ → List Width
ones zero = []
ones (suc n) = one ∷ ones n

-- n of them, from byte k on
unfoldable pub listed : ℕ → ℕ → List ℕ → List ℕ
listed zero k v = []
listed (suc n) k v = get_or v k 0 ∷ listed n (k + 1) v

pub listed_bytes : (n k : ℕ) (v : List ℕ) → length v ≡ k + n → ((i : ℕ) → get_or v i 0 < 256)
    → bytes_of (ones n) (listed n k v) ≡ drop k v
unfolding bytes_of digits ones listed
listed_bytes zero k v l h = sym (drop_of_length-le v (omega (arith, l)))
listed_bytes (suc n) k v l h =
    ap₂ (λ x xs. x ∷ xs) (mod-eq_of_lt (h k)) (listed_bytes n (k + 1) v (omega (arith, l)) h)
    ∙ sym (drop-cons v k 0 (omega (arith, l)) ∙ ap (λ n. get_or v k 0 ∷ drop n v) (sym (add-one k)))
