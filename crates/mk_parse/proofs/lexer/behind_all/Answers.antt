-- Byte after byte.
use Rattle.std.proofs.Common.{ℕ, List, [], ◌∷◌, ◌++◌, take, get_or, ap, sym, ◌∙◌, arith, append_assoc}
use Rattle.std.proofs.lemmas.List.{take_more, take_all}
use Rattle.mk_ast.specs.Tokens.{place_behind}
use Rattle.mk_parse.proofs.lexer.behind_all.Goals as goal

pub loop-byte-preserved : goal.loop-byte-preserved
loop-byte-preserved c =
    let bytes = c.args.bytes.now in
    let i = c.loop-byte.byte-index in
    let b = get_or bytes i 0 in
    record {
      place = λ front e.
          c.behind-here.ensures.place (front ++ take i bytes) (c.loop-byte.invariant.place front e)
          ∙ ap place_behind (append_assoc front (take i bytes) (b ∷ []) ∙ ap (λ (xs : List ℕ). front ++ xs) (sym (take_more bytes i 0 c.loop-byte-test.true)));
      line = omega arith;
      column = omega arith;
    }

pub returns : goal.returns
returns c = λ front e.
    c.loop-byte.invariant.place front e ∙ ap (λ (xs : List ℕ). place_behind (front ++ xs)) (take_all c.loop-byte.byte-index c.args.bytes.now c.loop-byte-test.false)
