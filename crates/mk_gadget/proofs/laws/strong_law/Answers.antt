-- The refresh and the product are strong, and no other operator is.
use Rattle.mk_gadget.proofs.RefreshStrong.{refresh-strong}
use Rattle.mk_gadget.proofs.ProductStrong.{product-strong}
use Rattle.mk_gadget.proofs.BuiltIn.{built_in-strong}
use Rattle.mk_gadget.proofs.laws.strong_law.Goals as goal

pub returns : goal.returns
returns c = record { refresh = refresh-strong; product = product-strong; operators = built_in-strong }
