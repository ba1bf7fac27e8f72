-- What the values of the program of a table stand for.
use Rattle.std.proofs.Common.{◌≡◌, ℕ, zero, suc, ◌+◌, ◌<◌, Bool, true, false, ◌&&◌, nat_eq, List, [], ◌∷◌, ◌++◌, Some, map, take, drop, bit_xor, slice_index, get_or, refl, sym, ap, ◌∙◌, arith, true≢false}
use Rattle.std.specs.Prelude.{fold}
use Rattle.std.specs.Fmt.{digits}
use Rattle.std.specs.Int.Bits.{xor_assoc, xor_zero_r}
use Rattle.std.proofs.Math.ListN.{get_or-map}
use Rattle.std.proofs.lemmas.Bool.{and_parts, eqb-true}
use Rattle.std.proofs.lemmas.List.{map-append, take-append-drop}
use Rattle.mk_field.specs.declared.field.FieldId.TheVariants.{Gf256}
use Rattle.mk_field.specs.declared.map.AddMap.{AddMap}
use Rattle.mk_field.specs.Field.{byte_product, raised, image as image_under}
use Rattle.mk_field.specs.Sharing.{field_sum}
use Rattle.mk_field.proofs.Bytes.{byte_product-zero_left, byte_product-zero_right}
use Rattle.mk_field.proofs.Raised.{raised-sum}
use Rattle.mk_ast.specs.Regular.{IsRegular}
use Rattle.mk_ssa.specs.declared.Operand.{Operand}
use Rattle.mk_ssa.specs.declared.Operand.TheVariants.{Secret, Public, Block}
use Rattle.mk_ssa.specs.declared.Op.{Op}
use Rattle.mk_ssa.specs.declared.Op.TheVariants.{Const, PubAdd, PubMul, PubSq, PubMap, Lift, Add, AddPub, Scale, Sq, Map, Mul, Refresh}
use Rattle.mk_ssa.specs.Denoted.{operand_value, value_of, in_order, denoted}
use Rattle.mk_ssa.proofs.InOrder.{in_order-append}
use Rattle.mk_types.specs.Elements.{secrets_of, publics_of, maps_of}
use Rattle.mk_types.specs.Environment.{output_elements}
use Rattle.mk_types.specs.Meaning.{result}
use Rattle.mk_unroll.specs.Unrolled.{Unrolling, first_unrolling, last_unrolling, unrolled}
use Rattle.mk_unroll.proofs.Unrolls.{unrolled_result}
use Rattle.mk_table.specs.Classes.{further_leaders}
use Rattle.mk_table.specs.Source.{source_decls, source}
use Rattle.mk_table.proofs.Raised.{raised-once}
use Rattle.mk_table.proofs.Unrolling.{powers_put, sum_put, body_unrolls}
use Rattle.mk_table.proofs.Typing.{of_bits, source_typed, source_ends}

-- x to an exponent, where 0 stands for no exponent
abbrev power_at : ℕ → ℕ → ℕ
power_at x zero = 0
power_at x (suc e) = raised Gf256 x (suc e)

-- the exponent of a product
abbrev exponents_sum : ℕ → ℕ → ℕ
exponents_sum zero n = 0
exponents_sum (suc m) zero = 0
exponents_sum (suc m) (suc n) = suc (m + suc n)

-- the exponent of an operand
abbrev operand_exponent : List ℕ → Operand → ℕ
operand_exponent es (Secret zero) = 1
operand_exponent es (Secret (suc k)) = 0
operand_exponent es (Public k) = 0
operand_exponent es (Block k) = slice_index es k

-- the exponent of a value
abbrev exponent : List ℕ → Op → ℕ
exponent es (Const value) = 0
exponent es (PubAdd left right) = 0
exponent es (PubMul left right) = 0
exponent es (PubSq arg) = 0
exponent es (PubMap map arg) = 0
exponent es (Lift arg) = operand_exponent es arg
exponent es (Add left right) = 0
exponent es (AddPub left right) = 0
exponent es (Scale left right) = 0
exponent es (Sq arg) = exponents_sum (operand_exponent es arg) (operand_exponent es arg)
exponent es (Map map arg) = 0
exponent es (Mul left right) = exponents_sum (operand_exponent es left) (operand_exponent es right)
exponent es (Refresh arg) = 0

-- whether a value is a power
abbrev is_power : Op → Bool
is_power (Const value) = nat_eq value 0
is_power (PubAdd left right) = false
is_power (PubMul left right) = false
is_power (PubSq arg) = false
is_power (PubMap map arg) = false
is_power (Lift arg) = true
is_power (Add left right) = false
is_power (AddPub left right) = false
is_power (Scale left right) = false
is_power (Sq arg) = true
is_power (Map map arg) = false
is_power (Mul left right) = true
is_power (Refresh arg) = false

-- whether all are
abbrev are_powers : List Op → Bool
are_powers [] = true
are_powers (op ∷ ops) = is_power op && are_powers ops

-- Values over one secret.
module _ (x : ℕ) (small : x < 256) (maps : List AddMap) where
  -- the product of two powers
  powers_product : (m n : ℕ) → byte_product (power_at x m) (power_at x n) ≡ power_at x (exponents_sum m n)
  powers_product zero n = byte_product-zero_left (power_at x n)
  powers_product (suc m) zero = byte_product-zero_right (power_at x (suc m))
  powers_product (suc m) (suc n) =
      let e : suc m + suc n ≡ suc (m + suc n) = omega arith in
      sym (raised-sum Gf256 x (suc m) (suc n) small) ∙ ap (raised Gf256 x) e

  -- what an operand stands for
  operand_power : (es : List ℕ) (v : Operand) → operand_value [] (x ∷ []) (map (power_at x) es) v ≡ power_at x (operand_exponent es v)
  operand_power es (Secret zero) = sym (raised-once x)
  operand_power es (Secret (suc k)) = refl
  operand_power es (Public k) = refl
  operand_power es (Block k) = get_or-map (power_at x) es k 0

  -- what a power stands for
  power_value : (es : List ℕ) (op : Op) → is_power op ≡ true → value_of Gf256 maps [] (x ∷ []) (map (power_at x) es) op ≡ power_at x (exponent es op)
  power_value es (Const value) is = eqb-true value 0 is
  power_value es (PubAdd left right) is = absurd (true≢false (sym is))
  power_value es (PubMul left right) is = absurd (true≢false (sym is))
  power_value es (PubSq arg) is = absurd (true≢false (sym is))
  power_value es (PubMap map arg) is = absurd (true≢false (sym is))
  power_value es (Lift arg) is = operand_power es arg
  power_value es (Add left right) is = absurd (true≢false (sym is))
  power_value es (AddPub left right) is = absurd (true≢false (sym is))
  power_value es (Scale left right) is = absurd (true≢false (sym is))
  power_value es (Sq arg) is = (λ i. byte_product (operand_power es arg i) (operand_power es arg i)) ∙ powers_product (operand_exponent es arg) (operand_exponent es arg)
  power_value es (Map map arg) is = absurd (true≢false (sym is))
  power_value es (Mul left right) is = (λ i. byte_product (operand_power es left i) (operand_power es right i)) ∙ powers_product (operand_exponent es left) (operand_exponent es right)
  power_value es (Refresh arg) is = absurd (true≢false (sym is))

  -- what powers stand for, in order
  powers_in_order : (es : List ℕ) (ops : List Op) → are_powers ops ≡ true →
      in_order (value_of Gf256 maps [] (x ∷ [])) (map (power_at x) es) ops ≡ map (power_at x) (in_order exponent es ops)
  unfolding in_order
  powers_in_order es [] all = refl
  powers_in_order es (op ∷ ops) all =
      let parts = and_parts (is_power op) (are_powers ops) all in
      ap (λ vs. in_order (value_of Gf256 maps [] (x ∷ [])) vs ops)
      (ap (λ v. map (power_at x) es ++ v ∷ []) (power_value es op parts.0) ∙ sym (map-append (power_at x) es (exponent es op ∷ [])))
      ∙ powers_in_order (es ++ exponent es op ∷ []) ops parts.1

-- The program of these images, and of this last and first coefficient.
module _ (image : ℕ → ℕ → ℕ) (last first : ℕ) where
  -- its powers
  abbrev pub powers : Unrolling
  powers = powers_put (source_decls (of_bits image)) (first_unrolling (source (of_bits image) last first))

  -- all its values
  abbrev pub whole_unrolling : Unrolling
  whole_unrolling = sum_put (source_decls (of_bits image)) last first powers

  -- the first 86 of them: zero, its lift, and the powers with their squares
  abbrev pub front : List Op
  front = take 86 whole_unrolling.values

  -- those behind the powers
  abbrev pub rest : List Op
  rest = drop 86 whole_unrolling.values

  -- it is unrolled to them
  pub source_unrolls : last_unrolling (source (of_bits image) last first) ≡ whole_unrolling
  source_unrolls = body_unrolls (source_decls (of_bits image)) last first (first_unrolling (source (of_bits image) last first))

  -- the image of a power
  abbrev pub power_image : ℕ → ℕ → ℕ
  power_image x k = image_under (record { images = of_bits image k }) (raised Gf256 x k)

  -- the sum
  abbrev pub sum_at : ℕ → ℕ
  sum_at x = bit_xor (bit_xor (fold (λ v k. bit_xor v (power_image x k)) (image_under (record { images = of_bits image 1 }) x) further_leaders) (byte_product (raised Gf256 x 255) last)) first

  -- the powers are powers
  powers_are : are_powers front ≡ true
  unfolding digits
  powers_are = refl

  -- what the output stands for, by what the values do
  abbrev outputs_of : ℕ → List ℕ → List ℕ
  outputs_of x vs = map (operand_value [] (x ∷ []) vs) (output_elements (source_decls (of_bits image)) whole_unrolling.env)

  -- the values behind the powers make the sum
  rest_denotes : (x : ℕ) → outputs_of x (in_order (value_of Gf256 (maps_of (source_decls (of_bits image))) [] (x ∷ [])) (map (power_at x) (in_order exponent [] front)) rest) ≡ sum_at x ∷ []
  unfolding digits in_order
  rest_denotes x = refl

  -- its output stands for the sum
  source_denotes : (x : ℕ) → x < 256 → denoted (unrolled (source (of_bits image) last first)) [] (x ∷ []) ≡ sum_at x ∷ []
  source_denotes x small =
      let decls = source_decls (of_bits image) in
      let next = value_of Gf256 (maps_of decls) [] (x ∷ []) in
      ap (λ (u : Unrolling). map (operand_value [] (x ∷ []) (in_order next [] u.values)) (output_elements decls u.env)) source_unrolls
      ∙ ap (λ vs. outputs_of x (in_order next [] vs)) (sym (take-append-drop 86 whole_unrolling.values))
      ∙ ap (outputs_of x) (in_order-append next [] front rest ∙ ap (λ vs. in_order next vs rest) (powers_in_order x small (maps_of decls) [] front powers_are))
      ∙ rest_denotes x

  -- and that is the result
  pub source_result : IsRegular (source (of_bits image) last first) → (x : ℕ) → x < 256 → result (source (of_bits image) last first) [] (x ∷ []) ≡ Some (sum_at x ∷ [])
  source_result regular x small =
      unrolled_result (source (of_bits image) last first) [] (x ∷ []) regular (source_typed image last first) (source_ends image last first) no_publics one_secret (λ k d below. absurd (omega (arith, below))) one_element
      ∙ ap (λ (xs : List ℕ). Some xs) (source_denotes x small)
    where
      no_publics : 0 ≡ publics_of (source (of_bits image) last first)
      no_publics = refl

      one_secret : 1 ≡ secrets_of (source (of_bits image) last first)
      one_secret = refl

      one_element : (k d : ℕ) → k < 1 → get_or (x ∷ []) k d < 256
      one_element zero d below = small
      one_element (suc k) d below = absurd (omega (arith, below))

-- a sum from the left
pub fold_sum : (f : ℕ → ℕ) (a : ℕ) (ks : List ℕ) → fold (λ v k. bit_xor v (f k)) a ks ≡ bit_xor a (field_sum (map f ks))
unfolding field_sum
fold_sum f a [] = sym (xor_zero_r a)
fold_sum f a (k ∷ ks) = fold_sum f (bit_xor a (f k)) ks ∙ xor_assoc a (f k) (field_sum (map f ks))
