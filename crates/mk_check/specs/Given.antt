-- What a checker was given.
use Rattle.std.specs.Prelude.{◌≡◌, ℕ, ◌+◌, ◌*◌, ◌<◌, List, Option, MatchOption, length}
use Rattle.mk_code.specs.declared.instr.Instr.{Instr}
use Rattle.mk_code.specs.Listing.{Listing}
use Rattle.mk_ssa.specs.declared.Operand.{Operand}
use Rattle.mk_ssa.specs.declared.Op.{Op}
use Rattle.mk_rules.specs.Shape.{shape_of}
use Rattle.mk_rules.specs.Claimed.{Claimed}
use Rattle.mk_rules.specs.Accepts.{Outputs}
use Rattle.mk_rules.specs.Tiles.{Tiles, banks_of}
use Rattle.mk_rules.specs.Wired.{Wired}
use Rattle.mk_rules.specs.Faults.{IsClaimed, FirstOffTile, FirstWrongOutput}
use Rattle.mk_check.specs.Gadgets.{built_in_gadgets}
use Rattle.mk_check.specs.Laying.{AgreesTo}
use Rattle.mk_check.specs.Outlines.{outlined, code_over}
use Rattle.mk_check.specs.declared.outline.Outline.{Outline}

-- a checker: what the code is over, its certificate, how many instructions and outs were given, the first
-- instruction that isn't that of the blocks, and the first out that isn't that of its claim
pub record Checking : Type 0 where
  pub outline : Outline
  pub cert : Claimed
  pub instrs : ℕ
  pub off : Option ℕ
  pub outs : ℕ
  pub wrong : Option ℕ

-- it is the first of the code's instructions that isn't that of the blocks; or all that there are are those of the
-- blocks, which may go on
abbrev pub IsFirstOff : Listing → List Op → Option ℕ → Type 0
IsFirstOff code blocks off =
    let gadgets = built_in_gadgets (code.order + 1) in
    MatchOption off (AgreesTo code gadgets blocks (length code.instrs))
    (λ k. (k < length code.instrs) × FirstOffTile code gadgets.product gadgets.refresh blocks k)

-- it is the first of the code's so many outs that isn't that of its claim; or all are, and claims may go on
abbrev pub IsFirstWrong : Listing → List Op → List Operand → ℕ → Option ℕ → Type 0
IsFirstWrong code blocks claims count wrong =
    let gadgets = built_in_gadgets (code.order + 1) in
    let banks = banks_of (shape_of code) gadgets.product gadgets.refresh blocks in
    MatchOption wrong ((j : ℕ) → j < count → IsClaimed code banks blocks claims j)
    (λ k. (k < count) × FirstWrongOutput code banks blocks claims k)

-- the checker was given these instructions and these outs, one after the other: it has counted them, and if the
-- certificate is wired it has noted what is wrong of them first
pub record Given (checker : Checking) (instrs : List Instr) (outs : List ℕ) : Type 0 where
  pub count : checker.instrs ≡ length instrs
  pub outputs : length outs ≡ checker.outs * (checker.outline.order + 1)
  pub off : Wired (outlined checker.outline) checker.cert.blocks
      → IsFirstOff (code_over checker.outline instrs outs) checker.cert.blocks checker.off
  pub wrong : Wired (outlined checker.outline) checker.cert.blocks
      → IsFirstWrong (code_over checker.outline instrs outs) checker.cert.blocks checker.cert.claims checker.outs checker.wrong

-- the instructions are those of the blocks
abbrev pub IsTiled : Checking → List Instr → List ℕ → Type 0
IsTiled checker instrs outs =
    let gadgets = built_in_gadgets (checker.outline.order + 1) in
    Tiles (code_over checker.outline instrs outs) gadgets.product gadgets.refresh checker.cert.blocks

-- this is the first of them that isn't, or the length of the shorter of the two
abbrev pub IsOff : Checking → List Instr → List ℕ → ℕ → Type 0
IsOff checker instrs outs k =
    let gadgets = built_in_gadgets (checker.outline.order + 1) in
    FirstOffTile (code_over checker.outline instrs outs) gadgets.product gadgets.refresh checker.cert.blocks k

-- the outs are those of the claims
abbrev pub HasOutputs : Checking → List Instr → List ℕ → Type 0
HasOutputs checker instrs outs =
    let gadgets = built_in_gadgets (checker.outline.order + 1) in
    Outputs (code_over checker.outline instrs outs) gadgets.product gadgets.refresh checker.cert.blocks checker.cert.claims

-- this is the first of them that isn't, or the smaller one of their numbers
abbrev pub IsWrong : Checking → List Instr → List ℕ → ℕ → Type 0
IsWrong checker instrs outs k =
    let gadgets = built_in_gadgets (checker.outline.order + 1) in
    let code = code_over checker.outline instrs outs in
    FirstWrongOutput code (banks_of (shape_of code) gadgets.product gadgets.refresh checker.cert.blocks) checker.cert.blocks checker.cert.claims k
