-- The bytes are the text of the gadget.
use Rattle.mk_top.proofs.gadgets.judged_bytes.Goals as goal

pub returns-clause-fault : goal.returns-clause-fault
returns-clause-fault c = c.judged_gadget.ensures.fault c.args.bytes.now c.in_ok-gadget.ensures.ok
