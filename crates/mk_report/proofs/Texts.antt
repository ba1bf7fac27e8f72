-- Lines that are appended one after the other, and that a report is the only one.
use Rattle.std.proofs.Common.{◌≡◌, ℕ, ◌+◌, ◌<◌, true, false, Option, Some, IsSomeAnd, List, [], ◌∷◌, ◌++◌, length, take, get_or, slice_get, refl, sym, ◌∙◌, ap, subst, arith, append_assoc, append-nil, nat_eq, codes, decimal}
use Rattle.std.specs.List.{flat_map, range_with_len, enumerate_from, sum_by, list_any}
use Rattle.std.proofs.lemmas.Bool.{both_ways}
use Rattle.std.proofs.lemmas.Grind.{flat_map-append}
use Rattle.std.proofs.lemmas.List.{take_more, length-append, length-map}
use Rattle.std.proofs.lemmas.List.Concat.{flat_map-cons}
use Rattle.std.proofs.lemmas.List.FromFn.{length-enumerate_from, get_or-enumerate_from}
use Rattle.std.proofs.lemmas.List.Sums.{sum_by-cons}
use Rattle.mk_code.specs.Listing.{Listing}
use Rattle.mk_ssa.specs.declared.Op.{Op}
use Rattle.mk_ssa.specs.declared.Op.TheVariants.{Const}
use Rattle.mk_ssa.specs.declared.Operand.{Operand}
use Rattle.mk_ssa.specs.declared.Operand.TheVariants.{Secret, Public, Block}
use Rattle.mk_ssa.specs.Kinds.{is_public}
use Rattle.mk_ssa.specs.Operators.{operator_word}
use Rattle.mk_gadget.specs.Gadget.{Gadget, moved, placement, placed, placed_outs}
use Rattle.mk_gadget.specs.Template.{built_in}
use Rattle.mk_gadget.specs.Product.{product_gadget}
use Rattle.mk_gadget.specs.Refresh.{refresh_gadget}
use Rattle.mk_share.proofs.Banks.{range-more}
use Rattle.mk_rules.specs.Shape.{Shape, shape_of}
use Rattle.mk_rules.specs.Claimed.{Claimed}
use Rattle.mk_rules.specs.Tiles.{laid, reads, value_number, input_banks, first_position}
use Rattle.mk_rules.specs.Wired.{IsSharedThere, Wired}
use Rattle.mk_rules.specs.Accepts.{IsAccepted}
use Rattle.mk_rules.proofs.Doubled.{HasValue, reaches-there}
use Rattle.mk_lines.specs.CertLines.{argument_words}
use Rattle.mk_lines.specs.Words.{line, operand_word}
use Rattle.mk_rules.proofs.Probes.{Contains-front}
use Rattle.mk_report.specs.declared.need.ProductPlace.{ProductPlace}
use Rattle.mk_report.specs.Reached.{ReachesPlace, ArePlacesOf}
use Rattle.mk_regs.specs.Width.{width}
use Rattle.mk_report.specs.Report.{IsReport, instrs_of, randoms_of, need_words, secret_line, block_line, total_line, NamesKind}
use Rattle.mk_report.proofs.Ascending.{ascending-same}

-- one line more
pub line-more : {X : Type 0} (f : X → List ℕ) (xs ys : List X) (x : X) (start now after : List ℕ) → ys ≡ xs ++ x ∷ []
    → now ≡ start ++ flat_map f xs → after ≡ now ++ f x → after ≡ start ++ flat_map f ys
line-more f xs ys x start now after more so_far appended =
    appended ∙ ap (λ (t : List ℕ). t ++ f x) so_far ∙ append_assoc start (flat_map f xs) (f x)
    ∙ ap (λ (t : List ℕ). start ++ (flat_map f xs ++ t)) (sym (append-nil (f x)) ∙ sym (flat_map-cons f x []))
    ∙ ap (λ (t : List ℕ). start ++ t) (sym (flat_map-append f xs (x ∷ [])))
    ∙ ap (λ (zs : List _). start ++ flat_map f zs) (sym more)

-- from the first one on
pub numbers-more : (n : ℕ) → range_with_len 0 (n + 1) ≡ range_with_len 0 n ++ n ∷ []
numbers-more n = let e : 0 + n ≡ n = omega arith in range-more 0 n ∙ ap (λ (k : ℕ). range_with_len 0 n ++ k ∷ []) e

-- one block more, with its number
pub rows-more : {X : Type 0} (xs : List X) (i : ℕ) (d : X) → i < length xs
    → take (i + 1) (enumerate_from 0 xs) ≡ take i (enumerate_from 0 xs) ++ (i, get_or xs i d) ∷ []
rows-more xs i d within =
    let long : length (enumerate_from 0 xs) ≡ length xs = length-enumerate_from 0 xs in
    let e : 0 + i ≡ i = omega arith in
    take_more (enumerate_from 0 xs) i (0, d) (omega (arith, within, long))
    ∙ ap (λ (row : ℕ × _). take i (enumerate_from 0 xs) ++ row ∷ []) (get_or-enumerate_from 0 xs i (0, d) within ∙ ap (λ (k : ℕ). (k, get_or xs i d)) e)

-- three texts that are appended one after the other
pub three-texts : (start one two three xs ys zs : List ℕ) → one ≡ start ++ xs → two ≡ one ++ ys → three ≡ two ++ zs → three ≡ start ++ ((xs ++ ys) ++ zs)
three-texts start one two three xs ys zs first second third =
    third ∙ ap (λ (t : List ℕ). t ++ zs) (second ∙ ap (λ (t : List ℕ). t ++ ys) first ∙ append_assoc start xs ys) ∙ append_assoc start (xs ++ ys) zs

-- functions that agree make the same lines
flat_map-same : {X : Type 0} (f g : X → List ℕ) (xs : List X) → ((x : X) → f x ≡ g x) → flat_map f xs ≡ flat_map g xs
flat_map-same f g [] same = refl
flat_map-same f g (x ∷ xs) same =
    flat_map-cons f x xs ∙ ap (λ (t : List ℕ). t ++ flat_map f xs) (same x) ∙ ap (λ (t : List ℕ). g x ++ t) (flat_map-same f g xs same)
    ∙ sym (flat_map-cons g x xs)

-- a value has its places alone
places-one : (shape : Shape) (blocks : List Op) (v : ℕ) (ps qs : List ProductPlace) → ArePlacesOf shape blocks v ps → ArePlacesOf shape blocks v qs → ps ≡ qs
places-one shape blocks v ps qs first second =
    ascending-same ps qs first.ascending second.ascending
    (λ p held. (second.reached p).1 ((first.reached p).0 held))
    (λ p held. (first.reached p).1 ((second.reached p).0 held))

-- so there is one report
pub report-one : (code : Listing) (cert : Claimed) (text other : List ℕ) → IsReport code cert text → IsReport code cert other → text ≡ other
report-one code cert text other first second =
    let same : (v : ℕ) → first.places v ≡ second.places v =
    λ v. places-one (shape_of code) cert.blocks v (first.places v) (second.places v) (first.reached v) (second.reached v) in
    let inputs : ℕ = code.secrets + code.publics in
    let secrets : flat_map (λ k. secret_line k (first.places k)) (range_with_len 0 code.secrets)
    ≡ flat_map (λ k. secret_line k (second.places k)) (range_with_len 0 code.secrets) =
    flat_map-same (λ k. secret_line k (first.places k)) (λ k. secret_line k (second.places k)) (range_with_len 0 code.secrets)
    (λ k. ap (secret_line k) (same k)) in
    let rows : flat_map (λ row. block_line code.order row.0 row.1 (first.places (inputs + row.0))) (enumerate_from 0 cert.blocks)
    ≡ flat_map (λ row. block_line code.order row.0 row.1 (second.places (inputs + row.0))) (enumerate_from 0 cert.blocks) =
    flat_map-same (λ row. block_line code.order row.0 row.1 (first.places (inputs + row.0)))
    (λ row. block_line code.order row.0 row.1 (second.places (inputs + row.0))) (enumerate_from 0 cert.blocks)
    (λ row. ap (block_line code.order row.0 row.1) (same (inputs + row.0))) in
    let total : List ℕ = total_line code.order cert.blocks (width code) in
    first.is
    ∙ ap (λ (t : List ℕ). t ++ flat_map (λ row. block_line code.order row.0 row.1 (first.places (inputs + row.0))) (enumerate_from 0 cert.blocks) ++ total) secrets
    ∙ ap (λ (t : List ℕ). flat_map (λ k. secret_line k (second.places k)) (range_with_len 0 code.secrets) ++ t ++ total) rows
    ∙ sym second.is

-- the words of operators have no space
word-one : (op : Op) → list_any (nat_eq 32) (operator_word op) ≡ false
word-one (Const value) = refl
word-one _ = refl

-- five lists behind a first one are one list behind it
five-behind : (a b c d e f : List ℕ) → a ++ b ++ c ++ d ++ e ++ f ≡ a ++ (b ++ c ++ d ++ e ++ f)
five-behind a b c d e f =
    ap (λ (x : List ℕ). x ++ d ++ e ++ f) (append_assoc a b c)
    ∙ ap (λ (x : List ℕ). x ++ e ++ f) (append_assoc a (b ++ c) d)
    ∙ ap (λ (x : List ℕ). x ++ f) (append_assoc a (b ++ c ++ d) e)
    ∙ append_assoc a (b ++ c ++ d ++ e) f

-- the kinds are the words of the bundle text
pub kind-of-line : (order k : ℕ) (op : Op) (places : List ProductPlace) → NamesKind order k op places
kind-of-line order k op places = record {
  kind = operator_word op;
  rest = decimal (instrs_of order op) ++ codes " " ++ decimal (randoms_of order op) ++ codes " " ++ need_words places;
  words = argument_words op;
  one = word-one op;
  told = ap line (five-behind (operand_word (Block k) ++ codes " " ++ operator_word op ++ codes " ") (decimal (instrs_of order op)) (codes " ")
      (decimal (randoms_of order op)) (codes " ") (need_words places));
  written = refl;
}

-- a shared value that is there with the number of a block is a shared block
block-shared : (shape : Shape) (blocks : List Op) (k : ℕ) (op : Op) (v : Operand) → IsSharedThere shape blocks v
    → value_number shape v ≡ shape.secrets + shape.publics + k → slice_get blocks k ≡ Some op → is_public op ≡ true → ⊥
block-shared shape blocks k op (Secret i) there is at known = omega (arith, there, is)
block-shared shape blocks k op (Public i) there is at known = absurd there
block-shared shape blocks k op (Block i) there is at known =
    let same : i ≡ k = omega (arith, is) in
    let off : is_public op ≡ false =
    subst (λ (o : Option Op). IsSomeAnd o (λ op. is_public op ≡ false)) (ap (slice_get blocks) same ∙ at) there in
    both_ways (is_public op) off known

-- a public block reaches nothing
pub public-none : (shape : Shape) (blocks : List Op) (k : ℕ) (op : Op) (places : List ProductPlace) → Wired shape blocks → slice_get blocks k ≡ Some op
    → is_public op ≡ true → ArePlacesOf shape blocks (shape.secrets + shape.publics + k) places → places ≡ []
public-none shape blocks k op [] wired at known are = refl
public-none shape blocks k op (p ∷ ps) wired at known are =
    let reaches : ReachesPlace shape blocks (shape.secrets + shape.publics + k) p = (are.reached p).0 (Contains-front p ps) in
    let value : HasValue shape blocks (shape.secrets + shape.publics + k) =
    reaches-there shape blocks wired (shape.secrets + shape.publics + k) p.block p.operand reaches.1 in
    absurd (block-shared shape blocks k op value.value value.there value.is at known)

-- as many instructions are laid as the blocks have
laid-length : (shape : Shape) (banks : List (List ℕ)) (base : ℕ) (ops : List Op)
    → length (laid shape (product_gadget (shape.order + 1)) (refresh_gadget (shape.order + 1)) banks base ops) ≡ sum_by (instrs_of shape.order) ops
unfolding laid
laid-length shape banks base [] = refl
laid-length shape banks base (op ∷ ops) =
    let gadget : Gadget = built_in (shape.order + 1) op in
    let at : List ℕ = reads shape banks op in
    let behind : List _ =
    laid shape (product_gadget (shape.order + 1)) (refresh_gadget (shape.order + 1)) (banks ++ placed_outs at base gadget ∷ []) (base + length gadget.instrs) ops in
    let rest : length behind ≡ sum_by (instrs_of shape.order) ops =
    laid-length shape (banks ++ placed_outs at base gadget ∷ []) (base + length gadget.instrs) ops in
    length-append (placed at base gadget) behind
    ∙ ap (λ (n : ℕ). n + length behind) (placed-length at base gadget)
    ∙ ap (λ (n : ℕ). length gadget.instrs + n) rest
    ∙ sym (sum_by-cons (instrs_of shape.order) op ops)
  where
    placed-length : (at : List ℕ) (base : ℕ) (gadget : Gadget) → length (placed at base gadget) ≡ length gadget.instrs
    placed-length at base gadget = length-map gadget.instrs (moved (placement at base))

-- so the instructions of the blocks are those of the code
pub total-is : (code : Listing) (cert : Claimed) → IsAccepted code cert → sum_by (instrs_of code.order) cert.blocks ≡ length code.instrs
total-is code cert accepted =
    sym (ap (λ (is : List _). length is) accepted.tiles ∙ laid-length (shape_of code) (input_banks (shape_of code)) (first_position (shape_of code)) cert.blocks)
