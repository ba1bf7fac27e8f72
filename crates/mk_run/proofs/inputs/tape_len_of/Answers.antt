-- A tape is short enough.
use Rattle.std.proofs.Common.{arith}
use Rattle.std.proofs.Math.Nat.{mul-le-mul}
use Rattle.mk_code.proofs.Instrs.{randoms-le}
use Rattle.mk_run.proofs.inputs.tape_len_of.Goals as goal

pub overflow_add-result : goal.overflow_add-result
overflow_add-result c =
    let code = c.args.code.now in
    let fits = c.law.ensures.fits in
    let front = mul-le-mul fits.order.1 fits.secrets in
    let back = randoms-le code.instrs in
    omega (arith, front, back, fits.few, c.spent_by.ensures, c.randoms.ensures)
