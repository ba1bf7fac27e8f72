-- A word that one of the tests finds is reserved.
use Rattle.std.proofs.Common.{arith}
use Rattle.mk_parse.proofs.Decoding.{reserved_at}
use Rattle.mk_parse.proofs.words.is_reserved.Goals as goal

pub returns-then-eq-3 : goal.returns-then-eq-3
returns-then-eq-3 c = reserved_at 2 c.args.word.now c.as_slice-3.result.now c.eq-3.result (omega arith) c.eq-3.ensures c.as_slice-3.ensures c.if-eq-3.true

pub returns-then-eq-4 : goal.returns-then-eq-4
returns-then-eq-4 c = reserved_at 3 c.args.word.now c.as_slice-4.result.now c.eq-4.result (omega arith) c.eq-4.ensures c.as_slice-4.ensures c.if-eq-4.true

pub returns-then-eq-5 : goal.returns-then-eq-5
returns-then-eq-5 c = reserved_at 4 c.args.word.now c.as_slice-5.result.now c.eq-5.result (omega arith) c.eq-5.ensures c.as_slice-5.ensures c.if-eq-5.true

pub returns-then-eq-6 : goal.returns-then-eq-6
returns-then-eq-6 c = reserved_at 5 c.args.word.now c.as_slice-6.result.now c.eq-6.result (omega arith) c.eq-6.ensures c.as_slice-6.ensures c.if-eq-6.true

pub returns-then-eq-7 : goal.returns-then-eq-7
returns-then-eq-7 c = reserved_at 6 c.args.word.now c.as_slice-7.result.now c.eq-7.result (omega arith) c.eq-7.ensures c.as_slice-7.ensures c.if-eq-7.true

pub returns-then-eq-8 : goal.returns-then-eq-8
returns-then-eq-8 c = reserved_at 7 c.args.word.now c.as_slice-8.result.now c.eq-8.result (omega arith) c.eq-8.ensures c.as_slice-8.ensures c.if-eq-8.true

pub returns-then-eq-9 : goal.returns-then-eq-9
returns-then-eq-9 c = reserved_at 8 c.args.word.now c.as_slice-9.result.now c.eq-9.result (omega arith) c.eq-9.ensures c.as_slice-9.ensures c.if-eq-9.true

pub returns-then-eq-10 : goal.returns-then-eq-10
returns-then-eq-10 c = reserved_at 9 c.args.word.now c.as_slice-10.result.now c.eq-10.result (omega arith) c.eq-10.ensures c.as_slice-10.ensures c.if-eq-10.true
