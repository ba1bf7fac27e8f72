-- The program is that of the table, of which all the rest follows.
use Rattle.std.proofs.Common.{◌≡◌, ◌∙◌, sym, ap, subst, ◌<◌, ◌^◌, length}
use Rattle.std.proofs.lemmas.Result.{IfOk-weaker}
use Rattle.mk_ast.specs.Regular.{IsRegular}
use Rattle.std.proofs.lemmas.List.FromFn.{length-map-range_with_len}
use Rattle.mk_types.specs.Offences.{IsWellTyped}
use Rattle.mk_table.specs.ClassImages.{class_image}
use Rattle.mk_table.specs.Coefficients.{coefficient}
use Rattle.mk_unroll.specs.Causes.{Ends}
use Rattle.mk_table.specs.Table.{Computes, HasProducts}
use Rattle.mk_table.specs.Source.{table_source}
use Rattle.mk_table.proofs.Lists.{all_entries}
use Rattle.mk_table.proofs.Made.{made_of, table_bytes}
use Rattle.mk_table.proofs.Computed.{table_computes}
use Rattle.mk_table.proofs.Typing.{source_typed, source_ends}
use Rattle.mk_table.proofs.Products.{source_products}
use Rattle.mk_table.proofs.Regular.{source_regular}
use Rattle.mk_table.proofs.program.program_of_table.Goals as goal

pub source-requires : goal.source-requires
source-requires c = ap length (c.as_slice.ensures.items ∙ c.in_ok-coefficients.ensures) ∙ length-map-range_with_len (coefficient c.args.table.now) 0 256

pub returns-clause-program : goal.returns-clause-program
returns-clause-program c =
    IfOk-weaker c.source.result _ (λ p. p ≡ table_source c.args.table.now)
    (λ p same. same ∙ made_of c.args.table.now c.as_slice.result.now (c.as_slice.ensures.items ∙ c.in_ok-coefficients.ensures)) c.source.ensures

pub returns-clause-regular : goal.returns-clause-regular
returns-clause-regular c =
    let bytes = table_bytes c.args.table.now (all_entries (λ a. a < 256) c.args.table.now (λ i below. c.fits-table i)) in
    IfOk-weaker c.source.result _ (λ p. IsRegular p) (λ p same. subst IsRegular (sym same) (source_regular _ _ _ bytes)) (returns-clause-program c)

pub returns-clause-typed : goal.returns-clause-typed
returns-clause-typed c =
    IfOk-weaker c.source.result _ (λ p. IsWellTyped p)
    (λ p same. subst IsWellTyped (sym same) (source_typed (λ k b. class_image (coefficient c.args.table.now) k (2 ^ b)) (coefficient c.args.table.now 255) (coefficient c.args.table.now 0)))
    (returns-clause-program c)

pub returns-clause-ends : goal.returns-clause-ends
returns-clause-ends c =
    IfOk-weaker c.source.result _ (λ p. Ends p)
    (λ p same. subst Ends (sym same) (source_ends (λ k b. class_image (coefficient c.args.table.now) k (2 ^ b)) (coefficient c.args.table.now 255) (coefficient c.args.table.now 0)))
    (returns-clause-program c)

pub returns-clause-computes : goal.returns-clause-computes
returns-clause-computes c =
    IfOk-weaker c.source.result _ (λ p. Computes c.args.table.now p)
    (λ p same. subst (Computes c.args.table.now) (sym same) (table_computes c.args.table.now (all_entries (λ a. a < 256) c.args.table.now (λ i below. c.fits-table i))))
    (returns-clause-program c)

pub returns-clause-products : goal.returns-clause-products
returns-clause-products c =
    IfOk-weaker c.source.result _ (λ p. HasProducts 34 p)
    (λ p same. subst (HasProducts 34) (sym same) (source_products (λ k b. class_image (coefficient c.args.table.now) k (2 ^ b)) (coefficient c.args.table.now 255) (coefficient c.args.table.now 0)))
    (returns-clause-program c)
