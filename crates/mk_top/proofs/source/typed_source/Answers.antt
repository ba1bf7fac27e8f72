-- The program is the one that was parsed, whose maps are few.
use Rattle.std.proofs.Common.{length, ◌≤◌, sym, subst}
use Rattle.mk_ast.specs.declared.tree.Program.{Program as Tree}
use Rattle.mk_types.specs.Elements.{maps_of}
use Rattle.mk_compile.proofs.Maps.{few_maps}
use Rattle.mk_top.proofs.source.typed_source.Goals as goal

pub returns-clause-maps : goal.returns-clause-maps
returns-clause-maps c =
    let typed = (c.in_ok-check_types.ensures).typed in
    subst (λ (tree : Tree). length (maps_of tree.decls) ≤ 32768) (sym typed.0)
    (few_maps c.in_ok-tree.tree (c.in_ok-tree.ensures).few_maps typed.1)
