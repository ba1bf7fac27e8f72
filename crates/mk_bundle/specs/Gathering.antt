-- What the events of a bundle give: for the contracts inside the crate.
use Rattle.std.specs.Prelude.{ℕ, List, [], ◌∷◌, ◌++◌}
use Rattle.mk_field.specs.declared.field.FieldId.TheVariants.{Gf2}
use Rattle.mk_ssa.specs.declared.Op.{Op}
use Rattle.mk_ssa.specs.declared.Operand.{Operand}
use Rattle.mk_code.specs.declared.instr.Instr.{Instr}
use Rattle.mk_code.specs.Listing.{Listing}
use Rattle.mk_rules.specs.Claimed.{Claimed}
use Rattle.mk_bundle.specs.declared.event.Head.{Head}
use Rattle.mk_bundle.specs.declared.event.Event.{Event}
use Rattle.mk_bundle.specs.declared.event.Event.TheVariants as event
use Rattle.mk_bundle.specs.declared.collect.Parts.{Parts}

-- a head, and lists of blocks, claims, instructions and positions of outputs
pub record Gathered : Type 0 where
  pub head : Head
  pub blocks : List Op
  pub claims : List Operand
  pub instrs : List Instr
  pub outs : List ℕ

-- what parts have
abbrev pub gathered_of : Parts → Gathered
gathered_of parts = record { head = parts.head; blocks = parts.cert.blocks; claims = parts.cert.claims; instrs = parts.instrs; outs = parts.outs }

-- what no event gives
abbrev pub nothing : Gathered
nothing = record { head = record { field = Gf2; order = 1; secrets = 0; publics = 0; maps = [] }; blocks = []; claims = []; instrs = []; outs = [] }

-- one event more
abbrev pub gather : Gathered → Event → Gathered
gather g (event.Head head) = record g { head = head }
gather g (event.Block op) = record g { blocks = g.blocks ++ op ∷ [] }
gather g (event.Claim value) = record g { claims = g.claims ++ value ∷ [] }
gather g event.Code = g
gather g (event.Instr instr) = record g { instrs = g.instrs ++ instr ∷ [] }
gather g (event.Out positions) = record g { outs = g.outs ++ positions }
gather g event.End = g

-- these events more
unfoldable pub gather_all : Gathered → List Event → Gathered
gather_all g [] = g
gather_all g (e ∷ es) = gather_all (gather g e) es

-- the code of what was gathered
abbrev pub code_of : Gathered → Listing
code_of g = record { field = g.head.field; order = g.head.order; secrets = g.head.secrets; publics = g.head.publics; maps = g.head.maps; instrs = g.instrs; outs = g.outs }

-- the certificate of what was gathered
abbrev pub cert_of : Gathered → Claimed
cert_of g = record { blocks = g.blocks; claims = g.claims }
