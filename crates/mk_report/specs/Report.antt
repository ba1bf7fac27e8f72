-- The text of a report: a line for each secret, one for each block, and the totals with the width.
use Rattle.std.specs.Prelude.{◌≡◌, ℕ, false, nat_eq, ◌+◌, List, [], ◌∷◌, ◌++◌, length, take, codes, decimal}
use Rattle.std.specs.List.{flat_map, list_any, range_with_len, enumerate_from, sum_by}
use Rattle.mk_code.specs.Listing.{Listing}
use Rattle.mk_code.specs.Trace.{randoms}
use Rattle.mk_ssa.specs.declared.Op.{Op}
use Rattle.mk_ssa.specs.declared.Operand.TheVariants.{Secret, Block}
use Rattle.mk_ssa.specs.Operators.{operator_word}
use Rattle.mk_gadget.specs.Template.{built_in}
use Rattle.mk_regs.specs.Width.{width}
use Rattle.mk_rules.specs.Shape.{Shape, shape_of}
use Rattle.mk_rules.specs.Claimed.{Claimed}
use Rattle.mk_lines.specs.CertLines.{op_line, block_line as line_of_block}
use Rattle.mk_lines.specs.Words.{line, operand_word}
use Rattle.mk_report.specs.declared.need.ProductPlace.{ProductPlace}
use Rattle.mk_report.specs.Reached.{ArePlacesOf}

-- how many instructions a block has at an order
abbrev pub instrs_of : ℕ → Op → ℕ
instrs_of order op = length (built_in (order + 1) op).instrs

-- how many random elements they take
abbrev pub randoms_of : ℕ → Op → ℕ
randoms_of order op = randoms (built_in (order + 1) op).instrs

-- a place: its block, and which operand
abbrev pub place_word : ProductPlace → List ℕ
place_word p = operand_word (Block p.block) ++ codes "." ++ decimal p.operand

-- places with commas between, or a dash
abbrev pub places_word : List ProductPlace → List ℕ
places_word [] = codes "-"
places_word (p ∷ ps) = place_word p ++ flat_map (λ q. codes "," ++ place_word q) ps

-- how many places, and the first eight of them
abbrev pub need_words : List ProductPlace → List ℕ
need_words places = decimal (length places) ++ codes " " ++ places_word (take 8 places)

-- the line of a secret, which costs nothing and reaches these places
abbrev pub secret_line : ℕ → List ProductPlace → List ℕ
secret_line k places = line (operand_word (Secret k) ++ codes " input 0 0 " ++ need_words places)

-- the line of a block
abbrev pub block_line : ℕ → ℕ → Op → List ProductPlace → List ℕ
block_line order k op places =
    line (operand_word (Block k) ++ codes " " ++ operator_word op ++ codes " " ++ decimal (instrs_of order op) ++ codes " "
    ++ decimal (randoms_of order op) ++ codes " " ++ need_words places)

-- the line of a block has for its kind the word that stands for it in the bundle text: one without a space,
-- behind `block ` and before a space
pub record NamesKind (order k : ℕ) (op : Op) (places : List ProductPlace) : Type 0 where
  pub kind : List ℕ
  pub rest : List ℕ
  pub words : List ℕ
  pub one : list_any (nat_eq 32) kind ≡ false
  pub told : block_line order k op places ≡ line (operand_word (Block k) ++ codes " " ++ kind ++ codes " " ++ rest)
  pub written : op_line op ≡ line_of_block kind words

-- how many blocks there are, what they cost together, and how wide the code is
abbrev pub total_line : ℕ → List Op → ℕ → List ℕ
total_line order blocks width =
    line (codes "total " ++ decimal (length blocks) ++ codes " " ++ decimal (sum_by (instrs_of order) blocks) ++ codes " "
    ++ decimal (sum_by (randoms_of order) blocks) ++ codes " " ++ decimal width)

-- the text where each value reaches these places, and the code has this width
abbrev pub report_text : Shape → List Op → (ℕ → List ProductPlace) → ℕ → List ℕ
report_text shape blocks places width =
    flat_map (λ k. secret_line k (places k)) (range_with_len 0 shape.secrets)
    ++ flat_map (λ row. block_line shape.order row.0 row.1 (places (shape.secrets + shape.publics + row.0))) (enumerate_from 0 blocks)
    ++ total_line shape.order blocks width

-- the report: of each value the places of products that it reaches, and of the code its width
pub record IsReport (code : Listing) (cert : Claimed) (text : List ℕ) : Type 0 where
  pub places : ℕ → List ProductPlace
  pub reached : (v : ℕ) → ArePlacesOf (shape_of code) cert.blocks v (places v)
  pub is : text ≡ report_text (shape_of code) cert.blocks places (width code)
