-- All bytes came.
use Rattle.std.proofs.Common.{◌≡◌, ℕ, ◌++◌, sym, ap, subst, arith, length-append}
use Rattle.mk_lines.specs.Lines.{NamesFirst}
use Rattle.mk_bundle.specs.Pairs.{IsBundleText}
use Rattle.mk_bundle.specs.Reads.{Reader}
use Rattle.mk_bundle.proofs.reader.BundleReader.refuse.Goals as goal

pub returns-clause-refused : goal.returns-clause-refused
returns-clause-refused g c = λ taken wrong count. (
    let h = c.in_default.ensures.drained in
    let before : c.self.inside.input.count ≡ c.args.self.now.count = ap (λ (r : Reader). r.count) c.self.view_is in
    let limit : c.self.inside.input.limit ≡ c.args.self.now.limit = ap (λ (r : Reader). r.limit) c.self.view_is in record {
      came = h.came;
      comes = h.comes;
      within = omega (arith, h.few, before, limit, count, length-append taken h.came);
      end = h.end;
      only = (wrong h.came).0;
      first = subst (λ (n : ℕ). NamesFirst IsBundleText n (taken ++ h.came)) (sym c.next_line-line.ensures) (wrong h.came).1;
    })
