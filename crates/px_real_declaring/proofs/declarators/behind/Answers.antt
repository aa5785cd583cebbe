use Rattle.std.proofs.Common.{◌≡◌, ◌-◌, Ok, option_map, length, drop, refl, sym, ap, ◌∙◌, arith}
use Rattle.std.proofs.lemmas.Result.{err_from_is_err_and}
use Rattle.px_real_symbols.specs.Symbols.{seen}
use Rattle.px_real_declaring.specs.Trees.{declarator_tree, all_suffixed}
use Rattle.px_real_declaring.specs.Suffixes.{suffix_tree}
use Rattle.px_real_declaring.proofs.SuffixLoops.{suffixes_left, suffixes_next, suffixes_err, suffixes_full, suffixed_last}
use Rattle.px_real_declaring.proofs.declarators.behind.Goals as goal

pub loop-init : goal.loop-init
loop-init c =
    let m : length (drop c.args.start (seen c.args.on)) - 0 ≡ length (drop c.args.start (seen c.args.on)) = omega arith in
    rw (c.new-suffixes.ensures.items, c.left-end.ensures, m) refl

pub returns-in_err-suffix : goal.returns-in_err-suffix
returns-in_err-suffix c =
    let p = err_from_is_err_and c.from_residual.result c.from_residual.ensures.1 in
    rw (p.1, p.2)
    (suffixes_err _ (seen c.args.on) _ c.loop.counter (all_suffixed (seen c.args.on) (declarator_tree (seen c.args.on) c.args.core) c.loop.suffixes.items) (drop c.loop.at (seen c.args.on)) _
    c.loop-test.true c.in_err-suffix.ensures c.loop.invariant)

pub returns-in_default : goal.returns-in_default
returns-in_default c =
    suffixes_left _ c.loop.counter (all_suffixed (seen c.args.on) (declarator_tree (seen c.args.on) c.args.core) c.loop.suffixes.items) (drop c.loop.at (seen c.args.on)) (drop c.in_ok-suffix.after (seen c.args.on)) _ _
    c.loop-test.true (ap (option_map (suffix_tree (seen c.args.on))) c.in_default.is) c.in_ok-suffix.ensures c.loop.invariant
    ∙ ap (λ z. Ok (z, drop c.in_ok-suffix.after (seen c.args.on))) (sym (c.in_ok-tree.ensures (seen c.args.on)))

pub loop-preserved : goal.loop-preserved
loop-preserved c =
    let e : all_suffixed (seen c.args.on) (declarator_tree (seen c.args.on) c.args.core) c.push.new.self.items ≡ _ =
    rw c.in_ok-push.ensures.items (suffixed_last (seen c.args.on) (declarator_tree (seen c.args.on) c.args.core) c.loop.suffixes.items c.in-Some.suffix) in
    rw e
    (suffixes_next _ c.loop.counter (all_suffixed (seen c.args.on) (declarator_tree (seen c.args.on) c.args.core) c.loop.suffixes.items) (drop c.loop.at (seen c.args.on)) (drop c.in_ok-suffix.after (seen c.args.on)) _
    (suffix_tree (seen c.args.on) c.in-Some.suffix) _ c.loop-test.true (ap (option_map (suffix_tree (seen c.args.on))) c.in-Some.is) c.in_ok-suffix.ensures c.loop.invariant)

pub returns : goal.returns
returns c =
    suffixes_full _ (all_suffixed (seen c.args.on) (declarator_tree (seen c.args.on) c.args.core) c.loop.suffixes.items) (drop c.loop.at (seen c.args.on)) _ (omega (arith, c.loop-test.false)) c.loop.invariant
    ∙ ap (λ z. Ok (z, drop c.loop.at (seen c.args.on))) (sym (c.in_ok-tree-2.ensures (seen c.args.on)))
