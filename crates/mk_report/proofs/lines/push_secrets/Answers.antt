-- One line more.
use Rattle.std.proofs.Common.{◌+◌, ℕ, string_bytes}
use Rattle.std.specs.List.{range_with_len}
use Rattle.mk_report.specs.Report.{secret_line}
use Rattle.mk_report.proofs.Texts.{line-more, numbers-more}
use Rattle.mk_report.proofs.lines.push_secrets.Goals as goal

pub loop-secret-preserved : goal.loop-secret-preserved
loop-secret-preserved c = λ places are.
    let k : ℕ = c.loop-secret.secret in
    line-more (λ k. secret_line k (places k)) (range_with_len 0 k) (range_with_len 0 (k + 1)) k
    (string_bytes c.args.text.now) (string_bytes c.loop-secret.text) (string_bytes c.push_secret.new.text) (numbers-more k)
    (c.loop-secret.invariant places are) (c.in_ok-push_secret.ensures (places k) (c.told_of.ensures places are))
