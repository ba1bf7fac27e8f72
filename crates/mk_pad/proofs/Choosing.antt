-- How many sets there are: each set of k of n things goes on with any of the n - k others, and each set of k + 1 comes so
-- from each of its things.
use Rattle.std.proofs.Common.{◌≡◌, ℕ, zero, suc, ◌+◌, ◌-◌, ◌*◌, ◌/◌, ◌<◌, ◌≤◌, refl, sym, ◌∙◌, ap, subst, arith, inl, inr}
use Rattle.std.proofs.Math.Nat.{mul-le-mul_right, mul-div_cancel_left}
use Rattle.std.proofs.lemmas.Bool.{cases_lt}
use Rattle.std.proofs.lemmas.Nat.{mul-le}
use Rattle.mk_pad.specs.Verified.{choose, sets_up_to}

-- the numbers of the rule, one row after the other
absorb-step : (j m a b d : ℕ) → (j + 1) * (a + b) ≡ (m + 1) * a → (suc j + 1) * d ≡ (m + 1) * b → (suc j + 1) * ((a + b) + d) ≡ (suc m + 1) * (a + b)
absorb-step j m a b d first second = omega (arith, first, second)

-- none of nothing
none-of-nothing : (k : ℕ) → choose zero (suc k) ≡ 0
unfolding choose
none-of-nothing k = refl

-- by the rule of Pascal
pascal : (n k : ℕ) → choose (suc n) (suc k) ≡ choose n k + choose n (suc k)
unfolding choose
pascal n k = refl

-- one set of none
one-empty : (n : ℕ) → choose n zero ≡ 1
unfolding choose
one-empty n = refl

-- a set of k + 1 of n + 1 things and one of its things: that thing, and a set of k of the others
absorb : (n k : ℕ) → (k + 1) * choose (suc n) (suc k) ≡ (n + 1) * choose n k
absorb zero zero = omega (arith, pascal zero zero, one-empty zero, none-of-nothing zero)
absorb zero (suc k) =
    let none : choose (suc zero) (suc (suc k)) ≡ 0 = omega (arith, pascal zero (suc k), none-of-nothing k, none-of-nothing (suc k)) in
    ap (λ (c : ℕ). (suc k + 1) * c) none ∙ omega (arith, none-of-nothing k)
absorb (suc m) zero =
    let each : (suc m + 1) * choose (suc m) zero ≡ suc m + 1 = ap (λ (c : ℕ). (suc m + 1) * c) (one-empty (suc m)) ∙ omega arith in
    let fewer : (m + 1) * choose m zero ≡ m + 1 = ap (λ (c : ℕ). (m + 1) * c) (one-empty m) ∙ omega arith in
    omega (arith, absorb m zero, pascal (suc m) zero, one-empty (suc m), each, fewer)
absorb (suc m) (suc j) =
    ap (λ (c : ℕ). (suc j + 1) * c) (pascal (suc m) (suc j) ∙ ap (λ (c : ℕ). c + choose (suc m) (suc (suc j))) (pascal m j))
    ∙ absorb-step j m (choose m j) (choose m (suc j)) (choose (suc m) (suc (suc j)))
    (ap (λ (c : ℕ). (j + 1) * c) (sym (pascal m j)) ∙ absorb m j) (absorb m (suc j))
    ∙ ap (λ (c : ℕ). (suc m + 1) * c) (sym (pascal m j))

-- how many there are of one more, where as many things are there
next-within : (d k a b : ℕ) → (k + 1) * (a + b) ≡ (d + k + 1) * a → d * a ≡ (k + 1) * b
next-within d k a b e = omega (arith, e)

-- and where they are not
next-beyond : (n k a b : ℕ) → n < k → (k + 1) * (a + b) ≡ (n + 1) * a → 0 ≡ (k + 1) * b
next-beyond n k a b less e = omega (arith, e, mul-le-mul_right a less)

-- how many there are of one more
pub next-step : (n k : ℕ) → choose n k * (n - k) ≡ (k + 1) * choose n (suc k)
next-step n k =
    let all : (k + 1) * (choose n k + choose n (suc k)) ≡ (n + 1) * choose n k =
    ap (λ (c : ℕ). (k + 1) * c) (sym (pascal n k)) ∙ absorb n k in
    elim (cases_lt n k) [
      | inl less ↦
          let none : n - k ≡ 0 = omega (arith, less) in
          omega (arith, ap (λ (d : ℕ). choose n k * d) none, next-beyond n k (choose n k) (choose n (suc k)) less all)
      | inr least ↦
          let whole : n + 1 ≡ (n - k) + k + 1 = omega (arith, least) in
          omega (arith, next-within (n - k) k (choose n k) (choose n (suc k)) (all ∙ ap (λ (m : ℕ). m * choose n k) whole))
    ]

-- the next number as the code has it
pub next-number : (n k sets others : ℕ) → sets ≡ choose n k → others ≡ n - k → sets * others / (k + 1) ≡ choose n (suc k)
next-number n k sets others is left =
    ap (λ (m : ℕ). m / (k + 1)) (ap (λ (s : ℕ). s * others) is ∙ ap (λ (d : ℕ). choose n k * d) left ∙ next-step n k)
    ∙ mul-div_cancel_left (choose n (suc k)) (omega arith)

-- of at most 512 things each number is at most 512 times the last one, and less where the sets are larger
pub next-few : (n k : ℕ) → n ≤ 512 → (k + 1) * choose n (suc k) ≤ 512 * choose n k
next-few n k few =
    let least : n - k ≤ 512 = omega (arith, few) in
    omega (arith, next-step n k, mul-le-mul_right (choose n k) least)

-- a small number is one of these
one-of : (P : ℕ → Type 0) (k : ℕ) → k ≤ 8 → P 0 → P 1 → P 2 → P 3 → P 4 → P 5 → P 6 → P 7 → P 8 → P k
one-of P zero most p0 p1 p2 p3 p4 p5 p6 p7 p8 = p0
one-of P (suc zero) most p0 p1 p2 p3 p4 p5 p6 p7 p8 = p1
one-of P (suc (suc zero)) most p0 p1 p2 p3 p4 p5 p6 p7 p8 = p2
one-of P (suc (suc (suc zero))) most p0 p1 p2 p3 p4 p5 p6 p7 p8 = p3
one-of P (suc (suc (suc (suc zero)))) most p0 p1 p2 p3 p4 p5 p6 p7 p8 = p4
one-of P (suc (suc (suc (suc (suc zero))))) most p0 p1 p2 p3 p4 p5 p6 p7 p8 = p5
one-of P (suc (suc (suc (suc (suc (suc zero)))))) most p0 p1 p2 p3 p4 p5 p6 p7 p8 = p6
one-of P (suc (suc (suc (suc (suc (suc (suc zero))))))) most p0 p1 p2 p3 p4 p5 p6 p7 p8 = p7
one-of P (suc (suc (suc (suc (suc (suc (suc (suc k)))))))) most p0 p1 p2 p3 p4 p5 p6 p7 p8 =
    let none : k ≡ 0 = omega (arith, most) in
    subst P (sym (ap (λ (x : ℕ). suc (suc (suc (suc (suc (suc (suc (suc x)))))))) none)) p8

-- so no number is great
pub sets-few : (n k : ℕ) → n ≤ 512 → k ≤ 8 → choose n k ≤ 128000000000000000
sets-few n k few most =
    let two : 2 * choose n 2 ≤ 512 * choose n 1 = next-few n 1 few in
    let three : 3 * choose n 3 ≤ 512 * choose n 2 = next-few n 2 few in
    let four : 4 * choose n 4 ≤ 512 * choose n 3 = next-few n 3 few in
    let five : 5 * choose n 5 ≤ 512 * choose n 4 = next-few n 4 few in
    let six : 6 * choose n 6 ≤ 512 * choose n 5 = next-few n 5 few in
    let seven : 7 * choose n 7 ≤ 512 * choose n 6 = next-few n 6 few in
    let eight : 8 * choose n 8 ≤ 512 * choose n 7 = next-few n 7 few in
    let first : choose n 0 ≡ 1 = one-empty n in
    let one : 1 * choose n 1 ≤ 512 * choose n 0 = next-few n 0 few in
    let to_3 : choose n 3 ≤ 22400000 = omega (arith, first, one, two, three) in
    let to_5 : choose n 5 ≤ 300000000000 = omega (arith, to_3, four, five) in
    let to_7 : choose n 7 ≤ 2000000000000000 = omega (arith, to_5, six, seven) in
    one-of (λ x. choose n x ≤ 128000000000000000) k most
    (omega (arith, first)) (omega (arith, first, one)) (omega (arith, first, one, two)) (omega (arith, to_3)) (omega (arith, to_3, four)) (omega (arith, to_5))
    (omega (arith, to_5, six)) (omega (arith, to_7)) (omega (arith, to_7, eight))

-- nor is what the next one is divided from
pub times-few : (n k : ℕ) → n ≤ 512 → k < 8 → (k + 1) * choose n (suc k) ≤ 1024000000000000000
times-few n k few less = omega (arith, mul-le (k + 1) (choose n (suc k)) 8 128000000000000000 (omega (arith, less)) (sets-few n (suc k) few (omega (arith, less))))

-- there is one set of no things, and none of one or more of them is counted yet
pub counted-none : (n : ℕ) → (1 ≡ choose n 0) × (0 ≡ sets_up_to n 0)
unfolding choose sets_up_to
counted-none n = (refl, refl)

-- one size more
pub up-more : (n k : ℕ) → sets_up_to n (suc k) ≡ sets_up_to n k + choose n (suc k)
unfolding sets_up_to
up-more n k = refl

-- nor is their sum
pub sum-few : (n k : ℕ) → n ≤ 512 → k ≤ 8 → sets_up_to n k ≤ k * 128000000000000000
unfolding sets_up_to
sum-few n zero few most = omega arith
sum-few n (suc k) few most =
    let less : k ≤ 8 = omega (arith, most) in
    omega (arith, sum-few n k few less, sets-few n (suc k) few most)

-- one size more is counted
pub counted-more : (n k sets total next : ℕ) → (sets ≡ choose n k) × (total ≡ sets_up_to n k) → next ≡ choose n (suc k)
    → (next ≡ choose n (k + 1)) × (total + next ≡ sets_up_to n (k + 1))
counted-more n k sets total next is more =
    let one : suc k ≡ k + 1 = omega arith in (
      more ∙ ap (choose n) one,
      omega (arith, is.1, more, up-more n k, ap (sets_up_to n) one),
    )
