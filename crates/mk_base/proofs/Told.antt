-- What a source or a sink tells, over several calls in a row.
use Rattle.std.proofs.Common.{◌≡◌, ℕ, ◌+◌, ◌-◌, ◌≤◌, List, [], ◌++◌, length, take, drop, Option, Some, None, IfSome, sym, ◌∙◌, ap, subst, arith, append_assoc}
use Rattle.std.proofs.Math.Seq.{take-add, take-length}
use Rattle.std.proofs.lemmas.List.{drop-drop, length-drop, length-append, length-take-le}
use Rattle.mk_base.specs.Outside.{GivesNext, TakesFront}
use Rattle.mk_base.specs.Streams.{ReadsAll}

-- a further front of the piece behind the part that was taken
pub taken-more : (told mid after : Option (List ℕ)) (piece : List ℕ) (start n : ℕ)
    → IfSome told (λ before. mid ≡ Some (before ++ take start piece))
    → IfSome mid (λ before. TakesFront before (drop start piece) n after)
    → IfSome told (λ before. after ≡ Some (before ++ take (start + n) piece))
taken-more None mid after piece start n so_far next = tt
taken-more (Some before) mid after piece start n so_far next =
    let step : IfSome (Some (before ++ take start piece)) (λ b. TakesFront b (drop start piece) n after) =
    subst (λ (m : Option (List ℕ)). IfSome m (λ b. TakesFront b (drop start piece) n after)) so_far next
    in step ∙ ap Some (append_assoc before (take start piece) (take n (drop start piece)) ∙ ap (λ (l : List ℕ). before ++ l) (sym (take-add start n piece)))

-- the bytes came from the front of those that were left, and the rest is still to come
pub record Came (bytes rest : List ℕ) (now : Option (List ℕ)) : Type 0 where
  pub within : length bytes ≤ length rest
  pub front : bytes ≡ take (length bytes) rest
  pub left : now ≡ Some (drop (length bytes) rest)

-- the next bytes come behind those that came
pub came-more : (told mid after : Option (List ℕ)) (bytes buffer : List ℕ) (n : ℕ) → n ≤ length buffer
    → IfSome told (λ rest. Came bytes rest mid)
    → IfSome mid (λ rest. GivesNext rest n buffer after)
    → IfSome told (λ rest. Came (bytes ++ take n buffer) rest after)
came-more None mid after bytes buffer n fits came next = tt
came-more (Some rest) mid after bytes buffer n fits came next =
    let step : GivesNext (drop (length bytes) rest) n buffer after =
    subst (λ (m : Option (List ℕ)). IfSome m (λ r. GivesNext r n buffer after)) came.left next in
    let grown : length (bytes ++ take n buffer) ≡ length bytes + n =
    length-append bytes (take n buffer) ∙ ap (λ (k : ℕ). length bytes + k) (length-take-le n buffer fits)
    in record {
      within = omega (arith, grown, step.within, length-drop (length bytes) rest, came.within);
      front =
          ap (λ (l : List ℕ). l ++ take n buffer) came.front ∙ ap (λ (l : List ℕ). take (length bytes) rest ++ l) step.bytes
          ∙ sym (take-add (length bytes) n rest) ∙ ap (λ (k : ℕ). take k rest) (sym grown);
      left = step.taken ∙ ap Some (drop-drop n (length bytes) rest ∙ ap (λ (k : ℕ). drop k rest) (sym grown));
    }

-- where no byte is left behind those that came, they are all that were left
pub came-all : (told mid after : Option (List ℕ)) (bytes buffer : List ℕ)
    → IfSome told (λ rest. Came bytes rest mid)
    → IfSome mid (λ rest. GivesNext rest 0 buffer after)
    → IfSome mid (λ rest. rest ≡ [])
    → IfSome told (λ rest. ReadsAll rest bytes after)
came-all None mid after bytes buffer came next end = tt
came-all (Some rest) mid after bytes buffer came next end =
    let step : GivesNext (drop (length bytes) rest) 0 buffer after =
    subst (λ (m : Option (List ℕ)). IfSome m (λ r. GivesNext r 0 buffer after)) came.left next in
    let none : drop (length bytes) rest ≡ [] =
    subst (λ (m : Option (List ℕ)). IfSome m (λ r. r ≡ [])) came.left end in
    let count : length rest - length bytes ≡ 0 = sym (length-drop (length bytes) rest) ∙ ap length none in
    let same : length bytes ≡ length rest = omega (arith, count, came.within)
    in record {
      whole = came.front ∙ ap (λ (k : ℕ). take k rest) same ∙ take-length rest;
      end = step.taken ∙ ap Some none;
    }

-- what stands behind a place in a list, as a range says it
pub range-from : (start : ℕ) (piece : List ℕ) → take (length piece - start) (drop start piece) ≡ drop start piece
range-from start piece = ap (λ (k : ℕ). take k (drop start piece)) (sym (length-drop start piece)) ∙ take-length (drop start piece)
