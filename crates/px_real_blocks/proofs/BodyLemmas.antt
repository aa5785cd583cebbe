-- What the answer of the reader says of a whole body.
use Rattle.std.proofs.Common.{◌≡◌, ℕ, ◌<◌, List, [], ◌∷◌, ◌++◌, length, Ok, Err, refl, ap, subst, ◌∙◌, length-append, arith}
use Rattle.px_real_expressions.specs.declared.terminal.Terminal.TheVariants as T
use Rattle.px_real_expressions.specs.Lexemes.{Lexeme}
use Rattle.px_real_expressions.specs.Stops.{Stop, wrong, Read}
use Rattle.px_real_expressions.specs.Grammar.{Between, between, IsHeld}
use Rattle.px_real_expressions.proofs.Tools.{both_are, bind_ok, front_bind, front_here}
use Rattle.px_real_statements.specs.StatementTree.{StatementTree}
use Rattle.px_real_statements.specs.Grammar.{IsBody}
use Rattle.px_real_statements.specs.Reading.{items_at, statement_at, body_at}
use Rattle.px_real_statements.proofs.Balance.{held_balanced}
use Rattle.px_real_statements.proofs.Bodies.{some_body}
use Rattle.px_real_statements.proofs.StatementExact.{items_sound, items_complete, statement_at_exact}
use Rattle.px_real_blocks.specs.Parts.{nesting_limit, IsBracedBody, nothing_left, braced_at}

-- where something is left
pub some_left : (ss : List StatementTree) (us : List Lexeme) → 0 < length us → nothing_left ss us ≡ Err (wrong us)
some_left ss [] lt = absurd (omega arith)
some_left ss (u ∷ us) lt = refl

pub none_left : (ss : List StatementTree) (us : List Lexeme) → us ≡ [] → nothing_left ss us ≡ Ok (ss, [])
none_left ss us h = rw h refl

left_is : (a b : List StatementTree) (us : List Lexeme) → nothing_left a us ≡ Ok (b, []) → (a ≡ b) × (us ≡ [])
left_is a b [] h = ((both_are a b [] [] h).0, refl)
left_is a b (u ∷ us) h = absurd cc

-- what is read is the body
pub braced_is : (ts : List Lexeme) (ss : List StatementTree) → braced_at nesting_limit ts ≡ Ok (ss, []) → IsBracedBody ts ss
unfolding braced_at body_at
braced_is ts ss h =
    let o = front_bind T.OpenBrace ts _ (ss, []) h in
    let x = bind_ok (items_at (length o.0.1) (statement_at nesting_limit) o.0.1) _ (ss, []) o.3 in
    let c = front_bind T.CloseBrace x.0.1 _ (ss, []) x.2 in
    let q = left_is x.0.0 ss c.0.1 c.3 in
    let r = items_sound (statement_at_exact nesting_limit) (length o.0.1) o.0.1 x.0.0 x.0.1 x.1 in
    let all : o.0.1 ≡ r.front ++ c.0.0 ∷ [] = r.parts ∙ ap (λ z. r.front ++ z) (c.2 ∙ ap (λ z. c.0.0 ∷ z) q.1) in
    (o.0.0, between c.0.0 o.1 c.1 (subst (λ z. IsBody nesting_limit r.front z) q.0 r.is) (o.2 ∙ ap (λ z. o.0.0 ∷ z) all))

-- braces around brackets that match are read
pub braced_some : (ts a : List Lexeme) (o : Lexeme) → Between T.OpenBrace T.CloseBrace IsHeld ts o a → (ss : List StatementTree) × (braced_at nesting_limit ts ≡ Ok (ss, []))
unfolding braced_at body_at
braced_some ts a o (between c {ts1 = ts1} ko kc held parts) =
    let b = some_body nesting_limit ts1 (held_balanced held) in
    let n : ℕ = length (ts1 ++ c ∷ []) in
    let fits : length ts1 < n = omega (arith, length-append ts1 (c ∷ [])) in
    let one : items_at n (statement_at nesting_limit) (ts1 ++ c ∷ []) ≡ Ok (b.0, c ∷ []) = items_complete (statement_at_exact nesting_limit) n c [] b.1 kc fits in
    (b.0, rw (parts, front_here T.OpenBrace o (ts1 ++ c ∷ []) ko, one, front_here T.CloseBrace c [] kc) refl)

pub not_braced : (ts a : List Lexeme) (o : Lexeme) (s : Stop) → braced_at nesting_limit ts ≡ Err s → Between T.OpenBrace T.CloseBrace IsHeld ts o a → ⊥
not_braced ts a o s h b = let w = braced_some ts a o b in differ (braced_at nesting_limit ts) h w.1
  where
    differ : {ss : List StatementTree} (x : Read (List StatementTree)) → x ≡ Err s → x ≡ Ok (ss, []) → ⊥
    differ x h g = absurd cc
