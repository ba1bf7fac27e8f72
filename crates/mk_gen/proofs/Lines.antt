-- The text is written line by line.
use Rattle.std.proofs.Common.{◌≡◌, ℕ, List, [], ◌∷◌, ◌++◌, flat_map, codes, decimal, sym, ap, ◌∙◌, append_assoc}
use Rattle.std.proofs.lemmas.List.{append-nil, flat_map_more}
use Rattle.mk_ast.specs.Canonical.{ended}
use Rattle.mk_gen.specs.Generated.{declaration_lines, generated}

-- one more line
lines_more : (text new newer : List ℕ) (lines : List (List ℕ)) (line : List ℕ) → new ≡ text ++ flat_map ended lines → newer ≡ new ++ ended line →
    newer ≡ text ++ flat_map ended (lines ++ line ∷ [])
lines_more text new newer lines line so_far more = more ∙ ap (λ t. t ++ ended line) so_far ∙ flat_map_more ended text lines line

-- the declarations
module _ (text after_field after_map after_secret after_local after_output : List ℕ)
    (field_is : after_field ≡ text ++ ended (codes "field gf256;"))
    (map_is : after_map ≡ after_field ++ ended (codes "map m = 0x1f, 0x3e, 0x7c, 0xf8, 0xf1, 0xe3, 0xc7, 0x8f;"))
    (secret_is : after_secret ≡ after_map ++ ended (codes "secret x[16];"))
    (local_is : after_local ≡ after_secret ++ ended (codes "local secret a;"))
    (output_is : after_output ≡ after_local ++ ended (codes "output y[16];")) where
  -- the declarations are written behind the line of the output
  pub declarations_written : after_output ≡ text ++ flat_map ended declaration_lines
  declarations_written =
      let field : List ℕ = codes "field gf256;" in
      let additive : List ℕ = codes "map m = 0x1f, 0x3e, 0x7c, 0xf8, 0xf1, 0xe3, 0xc7, 0x8f;" in
      let secret : List ℕ = codes "secret x[16];" in
      let local : List ℕ = codes "local secret a;" in
      lines_more text after_local after_output (field ∷ additive ∷ secret ∷ local ∷ []) (codes "output y[16];")
      (lines_more text after_secret after_local (field ∷ additive ∷ secret ∷ []) local
      (lines_more text after_map after_secret (field ∷ additive ∷ []) secret
      (lines_more text after_field after_map (field ∷ []) additive (lines_more text text after_field [] field (sym (append-nil text)) field_is) map_is)
      secret_is) local_is) output_is

-- all lines
module _ (n : ℕ) (text after_declarations after_head after_first after_second after_all : List ℕ)
    (declarations_are : after_declarations ≡ text ++ flat_map ended declaration_lines)
    (head_is : after_head ≡ after_declarations ++ (codes "for i in 0.." ++ (decimal n ++ (codes " {" ++ 10 ∷ []))))
    (first_is : after_first ≡ after_head ++ ended (codes "  a = x[i % 16] + y[5 * i % 16];"))
    (second_is : after_second ≡ after_first ++ ended (codes "  y[i % 16] = a * m(a) + sq(y[(i + 1) % 16]);"))
    (end_is : after_all ≡ after_second ++ ended (codes "}")) where
  -- so the whole source is
  pub generated_written : after_all ≡ text ++ generated n
  generated_written =
      let head : List ℕ = codes "for i in 0.." ++ decimal n ++ codes " {" in
      let first : List ℕ = codes "  a = x[i % 16] + y[5 * i % 16];" in
      let second : List ℕ = codes "  y[i % 16] = a * m(a) + sq(y[(i + 1) % 16]);" in
      let whole : codes "for i in 0.." ++ (decimal n ++ (codes " {" ++ 10 ∷ [])) ≡ ended head =
      ap (λ t. codes "for i in 0.." ++ t) (sym (append_assoc (decimal n) (codes " {") (10 ∷ []))) in
      lines_more text after_second after_all (declaration_lines ++ head ∷ first ∷ second ∷ []) (codes "}")
      (lines_more text after_first after_second (declaration_lines ++ head ∷ first ∷ []) second
      (lines_more text after_head after_first (declaration_lines ++ head ∷ []) first
      (lines_more text after_declarations after_head declaration_lines head declarations_are (head_is ∙ ap (λ t. after_declarations ++ t) whole))
      first_is) second_is) end_is
