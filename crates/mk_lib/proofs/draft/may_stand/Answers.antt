-- An instruction may stand where there is room and it fits.
use Rattle.std.proofs.Common.{subst, sym, ℕ, arith}
use Rattle.mk_code.specs.Listing.{FitsAt}
use Rattle.mk_lib.specs.Reading.{state_of}
use Rattle.mk_lib.proofs.Form.{good_more, last_fits}
use Rattle.mk_lib.proofs.draft.may_stand.Goals as goal

pub returns-then-len : goal.returns-then-len
returns-then-len c =
    let st = state_of c.args.draft.now in (
      λ true. good_more st c.args.instr c.requires.good c.requires.stage (omega arith) (subst (λ (n : ℕ). FitsAt st.gadget.field 0 n c.args.instr) c.count_positions.ensures (c.fits.ensures.0 true)),
      λ good. c.fits.ensures.1 (subst (λ (n : ℕ). FitsAt st.gadget.field 0 n c.args.instr) (sym c.count_positions.ensures) (last_fits st c.args.instr good)),
    )
