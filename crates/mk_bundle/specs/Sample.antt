-- The texts of small pairs, the events of one, and which orders the versions have, computed.
use Rattle.std.specs.Prelude.{◌≡◌, ℕ, List, [], ◌∷◌, ◌++◌, Some, None, codes, refl}
use Rattle.std.proofs.Common.{inl, inr}
use Rattle.std.specs.Fmt.{digits}
use Rattle.mk_base.specs.Digits.{valued}
use Rattle.mk_field.specs.declared.field.FieldId.TheVariants.{Gf256}
use Rattle.mk_ssa.specs.declared.Operand.TheVariants.{Secret, Public, Block}
use Rattle.mk_ssa.specs.declared.Op.TheVariants as op
use Rattle.mk_code.specs.declared.instr.Instr.TheVariants.{Rnd, Const, Copy, Add, Mul, Sq, Map}
use Rattle.mk_code.specs.Listing.{Listing}
use Rattle.mk_regs.specs.declared.instr.RegInstr.TheVariants as reg
use Rattle.mk_regs.specs.Form.{RegListing}
use Rattle.mk_regs.specs.Renaming.{renamed_instrs, held_behind, renamed, outs_refusal, first_refusal, refusal_of}
use Rattle.mk_rules.specs.Claimed.{Claimed}
use Rattle.mk_lines.specs.Words.{line}
use Rattle.mk_lines.specs.CodeLines.{out_lines}
use Rattle.mk_lines.specs.Parsing.{after, whole, leads, number_by, number_at, number_of}
use Rattle.mk_bundle.specs.Text.{text, register_text}
use Rattle.mk_bundle.specs.Reading.{start, headed, order_read, read_at}
use Rattle.mk_bundle.specs.RegisterReading.{register_start, register_read_at}
use Rattle.mk_bundle.specs.declared.draft.Stage.TheVariants.{Order, Secrets}
use Rattle.mk_bundle.specs.declared.event.Event.{Event}
use Rattle.mk_bundle.specs.declared.event.Event.TheVariants as event
use Rattle.mk_bundle.specs.Events.{outs_of, events_of}
use Rattle.mk_bundle.specs.Standing.{StandFor}

-- the sum of two secrets: shares 0 and 1 are those of the first secret, 2 and 3 those of the second
abbrev pub sum_code : Listing
sum_code = record { field = Gf256; order = 1; secrets = 2; publics = 0; maps = []; instrs = Add 0 2 ∷ Add 1 3 ∷ []; outs = 4 ∷ 5 ∷ [] }

-- one block adds them, and the output is claimed to be its value
abbrev pub sum_cert : Claimed
sum_cert = record { blocks = op.Add (Secret 0) (Secret 1) ∷ []; claims = Block 0 ∷ [] }

-- its twelve lines
abbrev pub sum_text : List ℕ
sum_text =
    line (codes "mask 1")
    ++ line (codes "field gf256")
    ++ line (codes "order 1")
    ++ line (codes "secrets 2")
    ++ line (codes "publics 0")
    ++ line (codes "block add s0 s1")
    ++ line (codes "claim b0")
    ++ line (codes "code")
    ++ line (codes "add 0 2")
    ++ line (codes "add 1 3")
    ++ line (codes "out 4 5")
    ++ line (codes "end")

-- the text of the first pair is these lines
pub text-sum : text sum_code sum_cert ≡ sum_text
unfolding digits out_lines
text-sum = refl

-- the same sum over four registers: each instruction writes the register of the share that it reads first
abbrev pub sum_registers : RegListing
sum_registers = record {
  field = Gf256;
  order = 1;
  secrets = 2;
  publics = 0;
  registers = 4;
  maps = [];
  instrs = reg.Add 0 0 2 ∷ reg.Add 1 1 3 ∷ [];
  outs = 0 ∷ 1 ∷ [];
}

-- their lines, with the certificate of the first pair
abbrev pub sum_register_text : List ℕ
sum_register_text =
    line (codes "mask 2")
    ++ line (codes "field gf256")
    ++ line (codes "order 1")
    ++ line (codes "secrets 2")
    ++ line (codes "publics 0")
    ++ line (codes "registers 4")
    ++ line (codes "block add s0 s1")
    ++ line (codes "claim b0")
    ++ line (codes "code")
    ++ line (codes "add 0 0 2")
    ++ line (codes "add 1 1 3")
    ++ line (codes "out 0 1")
    ++ line (codes "end")

-- the text of the sum over registers is these lines
pub text-sum-registers : register_text sum_registers sum_cert ≡ sum_register_text
unfolding digits out_lines
text-sum-registers = refl

-- its eight events
abbrev pub sum_events : List Event
sum_events =
    event.Head (record { field = Gf256; order = 1; secrets = 2; publics = 0; maps = [] })
    ∷ event.Block (op.Add (Secret 0) (Secret 1))
    ∷ event.Claim (Block 0)
    ∷ event.Code
    ∷ event.Instr (Add 0 2)
    ∷ event.Instr (Add 1 3)
    ∷ event.Out (4 ∷ 5 ∷ [])
    ∷ event.End
    ∷ []

-- the events of the first pair are these
pub events-sum : events_of sum_code sum_cert ≡ sum_events
unfolding outs_of
events-sum = refl

-- they stand for its lines
pub stand-sum : StandFor sum_events sum_text
unfolding digits
stand-sum = inl refl

-- and for the lines of the sum over registers. Its instructions read registers that hold the shares, and write the sums
-- into registers 0 and 1, which are the output: they hold entries 4 and 5
pub stand-sum-registers : StandFor sum_events sum_register_text
unfolding digits outs_refusal
stand-sum-registers = inr (record {
  head = record { field = Gf256; order = 1; secrets = 2; publics = 0; maps = [] };
  registers = 4;
  others = _;
  rest = _;
  first = refl;
  front = refl;
  stand = (
    _,
    refl,
    (
      _,
      refl,
      (
        _,
        refl,
        (
          reg.Add 0 0 2,
          _,
          refl,
          refl,
          refl,
          (
            reg.Add 1 1 3,
            _,
            refl,
            refl,
            refl,
            (0 ∷ 1 ∷ [], _, refl, refl, refl, ([], refl, refl)),
          ),
        ),
      ),
    ),
  );
})

-- the register code of the sum is renamed to the sum over positions
pub renamed-sum : renamed sum_registers ≡ sum_code
unfolding renamed_instrs held_behind
renamed-sum = refl

-- and nothing in it is refused
pub runs-sum : refusal_of sum_registers ≡ None
unfolding first_refusal outs_refusal
runs-sum = refl

-- a code with an instruction of each kind, and two outputs
abbrev pub kinds_code : Listing
kinds_code = record {
  field = Gf256;
  order = 2;
  secrets = 1;
  publics = 1;
  maps = record { images = 0x1f ∷ 0x3e ∷ 0x7c ∷ 0xf8 ∷ 0xf1 ∷ 0xe3 ∷ 0xc7 ∷ 0x8f ∷ [] } ∷ [];
  instrs = Rnd ∷ Const 0x0a ∷ Copy 3 ∷ Add 0 4 ∷ Mul 1 5 ∷ Sq 2 ∷ Map 0 9 ∷ [];
  outs = 0 ∷ 1 ∷ 2 ∷ 10 ∷ 9 ∷ 8 ∷ [];
}

-- a certificate with a block of each kind, and two claims; it is not one for that code
abbrev pub kinds_cert : Claimed
kinds_cert = record {
  blocks = op.Const 0x63
      ∷ op.PubAdd (Public 0) (Block 0)
      ∷ op.PubMul (Block 0) (Block 1)
      ∷ op.PubSq (Block 2)
      ∷ op.PubMap 0 (Block 3)
      ∷ op.Lift (Block 4)
      ∷ op.Add (Secret 0) (Block 5)
      ∷ op.AddPub (Block 6) (Public 0)
      ∷ op.Scale (Block 7) (Block 0)
      ∷ op.Sq (Block 8)
      ∷ op.Map 0 (Block 9)
      ∷ op.Mul (Block 10) (Secret 0)
      ∷ op.Refresh (Block 11)
      ∷ [];
  claims = Secret 0 ∷ Block 12 ∷ [];
}

-- their lines
abbrev pub kinds_text : List ℕ
kinds_text =
    line (codes "mask 1")
    ++ line (codes "field gf256")
    ++ line (codes "order 2")
    ++ line (codes "secrets 1")
    ++ line (codes "publics 1")
    ++ line (codes "map 1f3e7cf8f1e3c78f")
    ++ line (codes "block const 63")
    ++ line (codes "block padd p0 b0")
    ++ line (codes "block pmul b0 b1")
    ++ line (codes "block psq b2")
    ++ line (codes "block pmap 0 b3")
    ++ line (codes "block lift b4")
    ++ line (codes "block add s0 b5")
    ++ line (codes "block addp b6 p0")
    ++ line (codes "block scale b7 b0")
    ++ line (codes "block sq b8")
    ++ line (codes "block map 0 b9")
    ++ line (codes "block mul b10 s0")
    ++ line (codes "block refresh b11")
    ++ line (codes "claim s0")
    ++ line (codes "claim b12")
    ++ line (codes "code")
    ++ line (codes "rnd")
    ++ line (codes "const 0a")
    ++ line (codes "copy 3")
    ++ line (codes "add 0 4")
    ++ line (codes "mul 1 5")
    ++ line (codes "sq 2")
    ++ line (codes "map 0 9")
    ++ line (codes "out 0 1 2")
    ++ line (codes "out 10 9 8")
    ++ line (codes "end")

-- the text of the second pair is those lines
pub text-kinds : text kinds_code kinds_cert ≡ kinds_text
unfolding digits out_lines
text-kinds = refl

-- an instruction of each kind over registers, and two outputs
abbrev pub kinds_registers : RegListing
kinds_registers = record {
  field = Gf256;
  order = 2;
  secrets = 1;
  publics = 1;
  registers = 12;
  maps = record { images = 0x1f ∷ 0x3e ∷ 0x7c ∷ 0xf8 ∷ 0xf1 ∷ 0xe3 ∷ 0xc7 ∷ 0x8f ∷ [] } ∷ [];
  instrs = reg.Rnd 4 ∷ reg.Const 5 0x0a ∷ reg.Copy 3 3 ∷ reg.Add 0 0 4 ∷ reg.Mul 11 1 5 ∷ reg.Sq 2 2 ∷ reg.Map 9 0 2 ∷ [];
  outs = 0 ∷ 1 ∷ 2 ∷ 11 ∷ 9 ∷ 3 ∷ [];
}

-- their lines, with a certificate of a constant that is claimed
abbrev pub kinds_register_text : List ℕ
kinds_register_text =
    line (codes "mask 2")
    ++ line (codes "field gf256")
    ++ line (codes "order 2")
    ++ line (codes "secrets 1")
    ++ line (codes "publics 1")
    ++ line (codes "map 1f3e7cf8f1e3c78f")
    ++ line (codes "registers 12")
    ++ line (codes "block const 63")
    ++ line (codes "claim b0")
    ++ line (codes "code")
    ++ line (codes "rnd 4")
    ++ line (codes "const 5 0a")
    ++ line (codes "copy 3 3")
    ++ line (codes "add 0 0 4")
    ++ line (codes "mul 11 1 5")
    ++ line (codes "sq 2 2")
    ++ line (codes "map 9 0 2")
    ++ line (codes "out 0 1 2")
    ++ line (codes "out 11 9 3")
    ++ line (codes "end")

-- the text of these is those lines
pub text-kinds-registers : register_text kinds_registers (record { blocks = op.Const 0x63 ∷ []; claims = Block 0 ∷ [] }) ≡ kinds_register_text
unfolding digits out_lines
text-kinds-registers = refl

-- ---- orders

-- version 1 has the order 8
pub order-8 : read_at Order start (codes "order 8") ≡ Some (record start { stage = Secrets; code = record start.code { order = 8 } })
unfolding read_at order_read headed after number_of number_at number_by leads valued whole
order-8 = refl

-- it hasn't the order 9
pub order-9 : read_at Order start (codes "order 9") ≡ None
unfolding read_at order_read headed after number_of number_at number_by leads valued whole
order-9 = refl

-- version 2 has the order 15
pub register-order-15 : register_read_at Order register_start (codes "order 15") ≡ Some (record register_start { shared = record start { stage = Secrets; code = record start.code { order = 15 } } })
unfolding register_read_at order_read headed after number_of number_at number_by leads valued whole
register-order-15 = refl

-- it hasn't the order 16
pub register-order-16 : register_read_at Order register_start (codes "order 16") ≡ None
unfolding register_read_at order_read headed after number_of number_at number_by leads valued whole
register-order-16 = refl

-- and no order has a leading zero
pub register-order-09 : register_read_at Order register_start (codes "order 09") ≡ None
unfolding register_read_at order_read headed after number_of number_at number_by leads valued whole
register-order-09 = refl
