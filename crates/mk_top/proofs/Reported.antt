-- What was reported of a text, said of the bytes that the input gave.
use Rattle.std.proofs.Common.{ℕ, List, Option, Some, IfSome}
use Rattle.mk_base.specs.Streams.{ReadsAll}
use Rattle.mk_top.specs.Headline.{Reports}
use Rattle.mk_top.proofs.Bundles.{text-given}

-- the bundle that was read is the one that was given
pub reports-given : (given after : Option (List ℕ)) (bytes written : List ℕ)
    → IfSome given (λ rest. ReadsAll rest bytes after) → Reports (Some bytes) written → Reports given written
reports-given given after bytes written read c = record {
  code = c.code;
  cert = c.cert;
  bundle = text-given given after bytes c.code c.cert read c.bundle;
  accepted = c.accepted;
  report = c.report;
}
