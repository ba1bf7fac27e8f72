use Rattle.std.proofs.Common.{◌≡◌, take}
use Rattle.mk_field.specs.Sharing.{field_sum}
use Rattle.mk_share.proofs.share.value_of.Given as goal

-- the sum so far is that of the shares before this one
abbrev pub invariant-loop-share : goal.invariant-loop-share
invariant-loop-share l = l.sum ≡ field_sum (take l.share-index l.shares)
