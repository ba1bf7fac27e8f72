-- The lines of the secrets, those of the blocks, and the totals.
use Rattle.std.proofs.Common.{◌+◌, ◌++◌, ℕ, string_bytes, ◌∙◌, ap}
use Rattle.std.specs.List.{flat_map, range_with_len, enumerate_from}
use Rattle.std.proofs.lemmas.Result.{on_ok_weaker}
use Rattle.mk_code.specs.Listing.{Listing}
use Rattle.mk_report.specs.Report.{secret_line, block_line, total_line}
use Rattle.mk_report.proofs.Texts.{three-texts}
use Rattle.mk_report.proofs.lines.push_report.Goals as goal

pub returns : goal.returns
returns c =
    let code : Listing = c.args.code.now in
    on_ok_weaker c.push_total.result
    (λ total places are.
    three-texts (string_bytes c.args.text.now) (string_bytes c.push_secrets.new.text) (string_bytes c.push_blocks.new.text) (string_bytes c.push_total.new.text)
    (flat_map (λ k. secret_line k (places k)) (range_with_len 0 code.secrets))
    (flat_map (λ row. block_line code.order row.0 row.1 (places (code.secrets + code.publics + row.0))) (enumerate_from 0 c.args.blocks.now))
    (total_line code.order c.args.blocks.now c.args.width)
    (c.in_ok-push_secrets.ensures places are
    ∙ ap (λ (n : ℕ). string_bytes c.args.text.now ++ flat_map (λ k. secret_line k (places k)) (range_with_len 0 n)) c.secrets.ensures)
    (c.in_ok-push_blocks.ensures places are)
    (total ∙ ap (λ (n : ℕ). string_bytes c.push_blocks.new.text ++ total_line n c.args.blocks.now c.args.width) c.order.ensures))
    c.push_total.ensures
