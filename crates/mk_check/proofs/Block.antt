-- The instructions of one block among those of all.
use Rattle.std.proofs.Common.{◌≡◌, ℕ, zero, suc, ◌+◌, ◌<◌, ◌≤◌, List, [], ◌∷◌, ◌++◌, length, map, take, get_or, slice_get, Some, None, refl, sym, ◌∙◌, ap, arith}
use Rattle.std.proofs.lemmas.List.{length-map, take_all}
use Rattle.std.proofs.lemmas.Option.{slice_get-map, slice_get_within, slice_get_past, get_or_from_slice_get}
use Rattle.std.specs.Option.{option_map}
use Rattle.mk_code.specs.declared.instr.Instr.{Instr}
use Rattle.mk_ssa.specs.declared.Op.{Op}
use Rattle.mk_gadget.specs.Gadget.{placement, moved, placed}
use Rattle.mk_gadget.specs.Template.{template}
use Rattle.mk_rules.specs.Shape.{Shape}
use Rattle.mk_rules.specs.Tiles.{reads, first_position}
use Rattle.mk_rules.proofs.Laid.{laid-parts}
use Rattle.mk_check.specs.Gadgets.{Gadgets}
use Rattle.mk_check.specs.Laying.{all_laid, all_banks}
use Rattle.mk_check.specs.Plans.{laid_len}

-- an element behind a front, and before the rest
slice_get-middle : {X : Type 0} (front xs rest : List X) (i : ℕ) → i < length xs → slice_get (front ++ (xs ++ rest)) (length front + i) ≡ slice_get xs i
slice_get-middle [] [] rest i below = absurd (omega (arith, below))
slice_get-middle [] (x ∷ xs) rest zero below = refl
slice_get-middle [] (x ∷ xs) rest (suc i) below =
    let e : suc i ≡ 0 + suc i = omega arith in
    let inner : slice_get (xs ++ rest) (0 + i) ≡ slice_get xs i = slice_get-middle [] xs rest i (omega (arith, below)) in
    let z : i ≡ 0 + i = omega arith in
    ap (slice_get ((x ∷ xs) ++ rest)) (sym e) ∙ ap (slice_get (xs ++ rest)) z ∙ inner
slice_get-middle (y ∷ front) xs rest i below =
    let e : suc (length front) + i ≡ suc (length front + i) = omega arith in
    ap (slice_get (y ∷ (front ++ (xs ++ rest)))) e ∙ slice_get-middle front xs rest i below

module _ (shape : Shape) (gadgets : Gadgets) (blocks : List Op) where
  -- an instruction of a block's template among those of all blocks
  pub laid-instr : (k i : ℕ) (op : Op) (instr : Instr) → slice_get blocks k ≡ Some op → slice_get (template (shape.order + 1) gadgets.product gadgets.refresh op).instrs i ≡ Some instr
      → slice_get (all_laid shape gadgets blocks) (laid_len shape gadgets blocks k + i)
      ≡ Some (moved (placement (reads shape (all_banks shape gadgets (take k blocks)) op) (first_position shape + laid_len shape gadgets blocks k)) instr)
  laid-instr k i op instr there at =
      let n : ℕ = shape.order + 1 in
      let own : get_or blocks k op ≡ op = get_or_from_slice_get blocks k op op there in
      let inside : i < length (template n gadgets.product gadgets.refresh op).instrs = slice_get_within (template n gadgets.product gadgets.refresh op).instrs i instr at in
      let to : ℕ → ℕ = placement (reads shape (all_banks shape gadgets (take k blocks)) op) (first_position shape + laid_len shape gadgets blocks k) in
      let here : List Instr = map (moved to) (template n gadgets.product gadgets.refresh op).instrs in
      let parts = laid-parts shape gadgets.product gadgets.refresh blocks k op (slice_get_within blocks k op there) in
      let all : all_laid shape gadgets blocks ≡ all_laid shape gadgets (take k blocks) ++ (here ++ parts.0) =
      parts.1 ∙ ap (λ (o : Op). all_laid shape gadgets (take k blocks)
      ++ (placed (reads shape (all_banks shape gadgets (take k blocks)) o) (first_position shape + laid_len shape gadgets blocks k) (template n gadgets.product gadgets.refresh o) ++ parts.0)) own in
      let long : length here ≡ length (template n gadgets.product gadgets.refresh op).instrs = length-map (template n gadgets.product gadgets.refresh op).instrs (moved to) in
      ap (λ (is : List Instr). slice_get is (laid_len shape gadgets blocks k + i)) all
      ∙ slice_get-middle (all_laid shape gadgets (take k blocks)) here parts.0 i (omega (arith, inside, long))
      ∙ slice_get-map (moved to) (template n gadgets.product gadgets.refresh op).instrs i
      ∙ ap (option_map (moved to)) at

  -- the instructions of all
  pub laid_len-all : laid_len shape gadgets blocks (length blocks) ≡ length (all_laid shape gadgets blocks)
  laid_len-all = ap (λ (ops : List Op). length (all_laid shape gadgets ops)) (take_all (length blocks) blocks (omega arith))

  -- behind them there is none
  pub laid-behind : (k i : ℕ) → length blocks ≤ k → laid_len shape gadgets blocks k ≤ i → slice_get (all_laid shape gadgets blocks) i ≡ None
  laid-behind k i all behind =
      slice_get_past (all_laid shape gadgets blocks) i
      (omega (arith, behind, ap (λ (ops : List Op). length (all_laid shape gadgets ops)) (take_all k blocks all)))
