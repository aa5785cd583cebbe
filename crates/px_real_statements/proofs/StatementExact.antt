-- The readers of statements read exactly what the grammar says.
use Rattle.std.proofs.Common.{◌≡◌, ℕ, zero, suc, ◌<◌, ◌≤◌, Bool, true, false, List, [], ◌∷◌, ◌++◌, length, Some, None, Ok, Err, refl, sym, ap, subst, ◌∙◌, append_assoc, length-append, arith, inl, inr}
use Rattle.px_expressions.proofs.ExactTools.{either}
use Rattle.px_real_expressions.specs.declared.terminal.Terminal.{Terminal}
use Rattle.px_real_expressions.specs.declared.terminal.Terminal.TheVariants as T
use Rattle.px_real_expressions.specs.Lexemes.{Lexeme, same, front}
use Rattle.px_real_expressions.specs.Operators.{is_identifier}
use Rattle.px_real_expressions.specs.Held.{closing, closes_something, Balanced, no_token, a_group}
use Rattle.px_real_expressions.specs.Stops.{Stop, wrong, Read, ◌>>=◌, expect}
use Rattle.px_real_expressions.specs.Reading.{Reader, closed_at, held_up_to}
use Rattle.px_real_expressions.specs.Grammar.{Gram, Between, between, IsHeld, is_held}
use Rattle.px_real_expressions.proofs.Tools.{done, both_are, bind_ok, same_is, front_is, front_here, front_bind, if_bind, part_bind, Reads, Exact}
use Rattle.px_real_expressions.proofs.HeldExact.{held_exact}
use Rattle.px_real_statements.specs.Phrases.{is_loose, Phrase}
use Rattle.px_real_statements.specs.Phrases as P
use Rattle.px_real_statements.specs.StatementTree.{LabelTree, StatementTree, statements_of, labelled_by, hangs, empty, simple, block, choose, choose_else, switch, while_loop, do_loop, for_loop, goto, break, continue, return, unread}
use Rattle.px_real_statements.specs.Grammar.{begins_simple, EndsBefore, NoneBegins, Items, no_item, an_item, an_unread, Unlabelled, is_empty, is_simple, is_block, is_if, is_if_else, is_switch, is_while, is_do, is_for, is_goto, is_break, is_continue, is_return, StatementOf, is_labelled, nothing_inside, IsStatement}
use Rattle.px_real_statements.specs.Reading.{up_to, condition_at, named_front, label_at, labels_at, read_or, items_at, block_at, if_at, switch_at, while_at, do_at, for_at, goto_at, return_at, word_at, simple_at, unlabelled_by, unlabelled_of, statement_of, no_statement, statement_at}
use Rattle.px_real_statements.proofs.Balance.{balanced_both, one_of, phrase_balanced, between_balanced, held_balanced, held_same, balanced_first, front_within, held_first}
use Rattle.px_real_statements.proofs.LabelExact.{up_to_sound, up_to_complete, at_semicolon, at_parenthesis, NoLabel, not_named, front_other, labels_sound, labels_complete, labels_balanced}

-- ---- what stands in parentheses

abbrev IsCondition : Gram (List Lexeme)
IsCondition ts a = (o : Lexeme) × Between T.OpenParenthesis T.CloseParenthesis IsHeld ts o a

between_parts : (o c : Lexeme) (a us ts vs ws rest : List Lexeme) → ts ≡ o ∷ us → us ≡ a ++ vs → vs ≡ c ∷ ws → ws ≡ rest → ts ≡ (o ∷ a ++ c ∷ []) ++ rest
between_parts o c a us ts vs ws rest e h g f = e ∙ ap (λ z. o ∷ z) (h ∙ ap (λ z. a ++ z) (g ∙ ap (λ z. c ∷ z) f) ∙ sym (append_assoc a (c ∷ []) rest))

condition_sound : (ts a rest : List Lexeme) → condition_at ts ≡ Ok (a, rest) → Reads IsCondition ts a rest
unfolding condition_at closed_at
condition_sound ts a rest h =
    let o = front_bind T.OpenParenthesis ts _ (a, rest) h in
    let x = part_bind (held_exact T.CloseParenthesis refl refl) o.0.1 _ (a, rest) o.3 in
    let c = front_bind T.CloseParenthesis x.0.1 _ (a, rest) x.2 in
    let q = both_are x.0.0 a c.0.1 rest c.3 in
    record {
      front = o.0.0 ∷ x.1.front ++ c.0.0 ∷ [];
      is = (o.0.0, between c.0.0 o.1 c.1 (subst (IsHeld x.1.front) q.0 x.1.is) refl);
      parts = between_parts o.0.0 c.0.0 x.1.front o.0.1 ts x.0.1 c.0.1 rest o.2 x.1.parts c.2 q.1;
    }

condition_there : {ts a : List Lexeme} {o : Lexeme} (rest : List Lexeme) → Between T.OpenParenthesis T.CloseParenthesis IsHeld ts o a → condition_at (ts ++ rest) ≡ Ok (a, rest)
unfolding condition_at closed_at
condition_there {a = a} rest (between {o = o} c {ts1 = ts1} ko kc g parts) =
    let one : held_up_to T.CloseParenthesis (ts1 ++ c ∷ rest) ≡ Ok (a, c ∷ rest) = (held_exact T.CloseParenthesis refl refl).complete ts1 a (c ∷ rest) g (c, rest, refl, kc) in
    rw (parts, append_assoc ts1 (c ∷ []) rest, front_here T.OpenParenthesis o (ts1 ++ c ∷ rest) ko, one, front_here T.CloseParenthesis c rest kc) refl

condition_exact : Exact IsCondition condition_at (λ rest. Unit {0})
condition_exact = record { sound = condition_sound; complete = λ ts a rest x u. condition_there rest x.1 }

condition_balanced : {ts a : List Lexeme} → IsCondition ts a → Balanced ts
condition_balanced x = between_balanced refl (λ us x g. held_balanced g) x.1

-- ---- statements

-- what is read is in the grammar, and followed by what may follow
pub record Sound (G : Gram StatementTree) (ts : List Lexeme) (s : StatementTree) (rest : List Lexeme) : Type 0 where
  pub front : List Lexeme
  pub is : G front s
  pub parts : ts ≡ front ++ rest
  pub follows : EndsBefore s rest

-- nothing is read that begins with this terminal
abbrev pub AwayFrom : Terminal → Reader StatementTree → Type 0
AwayFrom k r = (t : Lexeme) (ts : List Lexeme) (x : StatementTree × List Lexeme) → t.terminal ≡ k → r (t ∷ ts) ≡ Ok x → ⊥

pub record ExactStatement (G : Gram StatementTree) (r : Reader StatementTree) : Type 0 where
  pub sound : (ts : List Lexeme) (s : StatementTree) (rest : List Lexeme) → r ts ≡ Ok (s, rest) → Sound G ts s rest
  pub complete : (front : List Lexeme) (s : StatementTree) (rest : List Lexeme) → G front s → EndsBefore s rest → r (front ++ rest) ≡ Ok (s, rest)
  pub balanced : {ts : List Lexeme} {s : StatementTree} → G ts s → Balanced ts
  pub no_else : AwayFrom T.Else r
  pub no_brace : AwayFrom T.CloseBrace r
  pub some : (x : StatementTree × List Lexeme) → r [] ≡ Ok x → ⊥

-- what follows further on
ends_further : (s : StatementTree) (us : List Lexeme) (c : Lexeme) (rest : List Lexeme) → c.terminal ≡ T.CloseBrace → EndsBefore s us → EndsBefore s (us ++ c ∷ rest)
ends_further s [] c rest kc f h = rw kc refl
ends_further s (t ∷ us) c rest kc f h = other (same t.terminal T.Else) refl (f h)
  where
    other : (b : Bool) → same t.terminal T.Else ≡ b → front T.Else (t ∷ us) ≡ None → front T.Else (t ∷ (us ++ c ∷ rest)) ≡ None
    other true e g = absurd (let z : Some (t, us) ≡ None = sym (rw e refl) ∙ g in cc)
    other false e g = rw e refl

-- and what follows before
pub ends_nearer : (s : StatementTree) (us rest : List Lexeme) → EndsBefore s (us ++ rest) → EndsBefore s us
ends_nearer s [] rest f h = refl
ends_nearer s (t ∷ us) rest f h = other (same t.terminal T.Else) refl (f h)
  where
    other : (b : Bool) → same t.terminal T.Else ≡ b → front T.Else (t ∷ (us ++ rest)) ≡ None → front T.Else (t ∷ us) ≡ None
    other true e g = absurd (let z : Some (t, us ++ rest) ≡ None = sym (rw e refl) ∙ g in cc)
    other false e g = rw e refl

-- a statement has a first lexeme, which is not this one
module _ {G : Gram StatementTree} {r : Reader StatementTree} (p : ExactStatement G r) where
  begins_not : (k : Terminal) → AwayFrom k r → (front1 : List Lexeme) (s : StatementTree) (rest : List Lexeme) → G front1 s → front k (front1 ++ rest) ≡ None
  begins_not k away front1 s rest g = go front1 (p.complete front1 s [] g (λ h. refl))
    where
      go : (us : List Lexeme) → r (us ++ []) ≡ Ok (s, []) → front k (us ++ rest) ≡ None
      go [] h = absurd (p.some (s, []) h)
      go (t ∷ us) h = by (same t.terminal k) refl
        where
          by : (b : Bool) → same t.terminal k ≡ b → front k (t ∷ (us ++ rest)) ≡ None
          by true e = absurd (away t (us ++ []) (s, []) (same_is t.terminal k e) h)
          by false e = rw e refl

  pub statement_some : (front1 : List Lexeme) (s : StatementTree) → G front1 s → 0 < length front1
  statement_some [] s g = absurd (p.some (s, []) (p.complete [] s [] g (λ h. refl)))
  statement_some (t ∷ us) s g = omega arith

  -- ---- items up to a closing brace

  -- nothing is read where no statement begins
  none_read : (ts : List Lexeme) (c : Lexeme) (rest : List Lexeme) → c.terminal ≡ T.CloseBrace → Balanced ts → NoneBegins G ts → (x : StatementTree × List Lexeme) → r (ts ++ c ∷ rest) ≡ Ok x → ⊥
  none_read ts c rest kc m n x h =
      let one = p.sound (ts ++ c ∷ rest) x.0 x.1 h in
      let w = front_within c one.front ts x.1 rest kc (p.balanced one.is) m one.parts in
      n one.front w.0 x.0 one.is w.1 (ends_nearer x.0 w.0 (c ∷ rest) (subst (EndsBefore x.0) w.2 one.follows))

  -- where nothing is read no statement begins
  pub none_begins : (ts a : List Lexeme) (s : Stop) (c : Lexeme) (rest : List Lexeme) → r ts ≡ Err s → c.terminal ≡ T.CloseBrace → ts ≡ a ++ c ∷ rest → NoneBegins G a
  none_begins ts a s c rest h kc parts ts1 ts2 s1 g e f =
      let one : r (ts1 ++ (ts2 ++ c ∷ rest)) ≡ Ok (s1, ts2 ++ c ∷ rest) = p.complete ts1 s1 (ts2 ++ c ∷ rest) g (ends_further s1 ts2 c rest kc f) in
      let whole : ts ≡ ts1 ++ (ts2 ++ c ∷ rest) = parts ∙ ap (λ z. z ++ c ∷ rest) e ∙ append_assoc ts1 ts2 (c ∷ rest) in
      let z : Err s ≡ done s1 (ts2 ++ c ∷ rest) = sym h ∙ ap r whole ∙ one in
      absurd cc

  unread_is : (ts : List Lexeme) (s : Stop) (ss : List StatementTree) (rest : List Lexeme) → front T.CloseBrace ts ≡ None → r ts ≡ Err s →
      (held_up_to T.CloseBrace ts >>= λ x. expect T.CloseBrace x.1 >>= λ c. done (unread x.0 ∷ []) x.1) ≡ Ok (ss, rest) → Reads (Items G) ts ss rest
  unread_is [] s ss rest n h e =
      let x = part_bind (held_exact T.CloseBrace refl refl) [] _ (ss, rest) e in
      let c = front_bind T.CloseBrace x.0.1 _ (ss, rest) x.2 in
      nothing_before x.1.front c.0.0 c.0.1 (x.1.parts ∙ ap (λ z. x.1.front ++ z) c.2)
    where
      nothing_before : (us : List Lexeme) (c : Lexeme) (vs : List Lexeme) → [] ≡ us ++ c ∷ vs → Reads (Items G) [] ss rest
      nothing_before [] c vs g = absurd cc
      nothing_before (u ∷ us) c vs g = absurd cc
  unread_is (t ∷ ts) s ss rest n h e =
      let b = bind_ok (held_up_to T.CloseBrace (t ∷ ts)) _ (ss, rest) e in
      let one = (held_exact T.CloseBrace refl refl).sound (t ∷ ts) b.0.0 b.0.1 b.1 in
      let c = front_bind T.CloseBrace b.0.1 _ (ss, rest) b.2 in
      let q = both_are (unread b.0.0 ∷ []) ss b.0.1 rest c.3 in
      let f = held_first T.CloseBrace t ts b.0.0 b.0.1 (not_here (same t.terminal T.CloseBrace) refl) b.1 in
      let parts : t ∷ ts ≡ b.0.0 ++ b.0.1 = one.parts ∙ ap (λ z. z ++ b.0.1) (held_same one.is) in
      record {
        front = b.0.0;
        is = an_unread (subst Balanced (held_same one.is) (held_balanced one.is)) (none_begins (t ∷ ts) b.0.0 s c.0.0 c.0.1 h c.1 (parts ∙ ap (λ z. b.0.0 ++ z) c.2)) f.1 (sym q.0);
        parts = parts ∙ ap (λ z. b.0.0 ++ z) q.1;
      }
    where
      not_here : (b : Bool) → same t.terminal T.CloseBrace ≡ b → same t.terminal T.CloseBrace ≡ false
      not_here true g = absurd (let z : Some (t, ts) ≡ None = sym (rw g refl) ∙ n in cc)
      not_here false g = g

  pub items_sound : (n : ℕ) (ts : List Lexeme) (ss : List StatementTree) (rest : List Lexeme) → items_at n r ts ≡ Ok (ss, rest) → Reads (Items G) ts ss rest
  unfolding items_at
  items_sound zero ts ss rest h = let q = both_are [] ss ts rest h in record { front = []; is = no_item refl (sym q.0); parts = q.1 }
  items_sound (suc n) ts ss rest h =
      elim (either (front T.CloseBrace ts) (λ c. done [] ts) _ (Ok (ss, rest)) h) [
        | inl w ↦ let q = both_are [] ss ts rest w.2 in record { front = []; is = no_item refl (sym q.0); parts = q.1 }
        | inr v ↦ by (r ts) (λ us ss1 rest1 g. items_sound n us ss1 rest1 g) refl v.0 v.1
      ]
    where
      by : (x : Read StatementTree) → ((us : List Lexeme) (ss1 : List StatementTree) (rest1 : List Lexeme) → items_at n r us ≡ Ok (ss1, rest1) → Reads (Items G) us ss1 rest1) → r ts ≡ x → front T.CloseBrace ts ≡ None →
          read_or x (λ y. items_at n r y.1 >>= λ z. done (y.0 ∷ z.0) z.1) (held_up_to T.CloseBrace ts >>= λ y. expect T.CloseBrace y.1 >>= λ c. done (unread y.0 ∷ []) y.1) ≡ Ok (ss, rest) → Reads (Items G) ts ss rest
      by (Ok x) next e f g =
          let b = bind_ok (items_at n r x.1) (λ y. done (x.0 ∷ y.0) y.1) (ss, rest) g in
          let q = both_are (x.0 ∷ b.0.0) ss b.0.1 rest b.2 in
          let one = p.sound ts x.0 x.1 e in
          let two = next x.1 b.0.0 b.0.1 b.1 in
          record {
            front = one.front ++ two.front;
            is = an_item one.is (ends_nearer x.0 two.front b.0.1 (subst (EndsBefore x.0) two.parts one.follows)) two.is refl (sym q.0);
            parts = one.parts ∙ ap (λ z. one.front ++ z) (two.parts ∙ ap (λ z. two.front ++ z) q.1) ∙ sym (append_assoc one.front two.front rest);
          }
      by (Err s) next e f g = unread_is ts s ss rest f e g

  not_closing : (k : Terminal) → closes_something k ≡ false → same k T.CloseBrace ≡ false
  not_closing k h = by (same k T.CloseBrace) refl
    where
      by : (b : Bool) → same k T.CloseBrace ≡ b → b ≡ false
      by true e = absurd (let z : closes_something k ≡ true = ap closes_something (same_is k T.CloseBrace e) in cc)
      by false e = refl

  pub items_complete : (n : ℕ) {ts : List Lexeme} {ss : List StatementTree} (c : Lexeme) (rest : List Lexeme) → Items G ts ss → c.terminal ≡ T.CloseBrace → length ts < n → items_at n r (ts ++ c ∷ rest) ≡ Ok (ss, c ∷ rest)
  unfolding items_at
  items_complete zero c rest m kc lt = absurd (omega arith)
  items_complete (suc n) c rest (no_item h g) kc lt = rw (h, g, front_here T.CloseBrace c rest kc) refl
  items_complete (suc n) c rest (an_item {ts1 = ts1} {ts2 = ts2} {s = s} {ss1 = ss1} g f m parts e) kc lt =
      let one : r (ts1 ++ (ts2 ++ c ∷ rest)) ≡ Ok (s, ts2 ++ c ∷ rest) = p.complete ts1 s (ts2 ++ c ∷ rest) g (ends_further s ts2 c rest kc f) in
      let open_still : front T.CloseBrace (ts1 ++ (ts2 ++ c ∷ rest)) ≡ None = begins_not T.CloseBrace p.no_brace ts1 s (ts2 ++ c ∷ rest) g in
      let some : 0 < length ts1 = statement_some ts1 s g in
      let fits : length ts2 < n = omega (arith, ap length parts, length-append ts1 ts2) in
      let two : items_at n r (ts2 ++ c ∷ rest) ≡ Ok (ss1, c ∷ rest) = items_complete n c rest m kc fits in
      rw (parts, e, append_assoc ts1 ts2 (c ∷ rest), open_still, one, two) refl
  items_complete (suc n) c rest (an_unread {t = t} {ts1 = ts1} {ts = ts} m none parts e) kc lt =
      let open_still : front T.CloseBrace (ts ++ c ∷ rest) ≡ None = rw (parts, not_closing t.terminal (balanced_first m parts)) refl in
      let all : held_up_to T.CloseBrace (ts ++ c ∷ rest) ≡ Ok (ts, c ∷ rest) = (held_exact T.CloseBrace refl refl).complete ts ts (c ∷ rest) (is_held m refl) (c, rest, refl, kc) in
      rw (e, open_still) (by (r (ts ++ c ∷ rest)) refl all)
    where
      by : (x : Read StatementTree) → r (ts ++ c ∷ rest) ≡ x → held_up_to T.CloseBrace (ts ++ c ∷ rest) ≡ Ok (ts, c ∷ rest) →
          read_or x (λ y. items_at n r y.1 >>= λ z. done (y.0 ∷ z.0) z.1) (held_up_to T.CloseBrace (ts ++ c ∷ rest) >>= λ y. expect T.CloseBrace y.1 >>= λ d. done (unread y.0 ∷ []) y.1) ≡ Ok (unread ts ∷ [], c ∷ rest)
      by (Ok x) h all = absurd (none_read ts c rest kc m none x h)
      by (Err s) h all = rw (all, front_here T.CloseBrace c rest kc) refl

  items_balanced : {ts : List Lexeme} {ss : List StatementTree} → Items G ts ss → Balanced ts
  items_balanced (no_item h g) = no_token h
  items_balanced (an_item g f m parts e) = rw parts (balanced_both (p.balanced g) (items_balanced m))
  items_balanced (an_unread m none parts e) = m

-- a statement that can't hang may be followed by anything
free_of : (s : StatementTree) (rest : List Lexeme) → hangs s ≡ false → EndsBefore s rest
free_of s rest h e = absurd cc

not_hangs : (s : StatementTree) (ts : List Lexeme) (x : Lexeme × List Lexeme) → EndsBefore s ts → front T.Else ts ≡ Some x → hangs s ≡ false
not_hangs s ts x f h = go (hangs s) refl
  where
    go : (b : Bool) → hangs s ≡ b → hangs s ≡ false
    go true e = absurd (let z = f e in cc)
    go false e = e

hangs_labelled : (ls : List LabelTree) (s : StatementTree) → hangs (labelled_by ls s) ≡ hangs s
hangs_labelled [] s = refl
hangs_labelled (l ∷ ls) s = refl

-- what follows a statement, by an equal one
ends_as : (s t : StatementTree) (us rest : List Lexeme) → hangs t ≡ hangs s → us ≡ rest → EndsBefore s us → EndsBefore t rest
ends_as s t us rest h e f g = ap (front T.Else) (sym e) ∙ f (sym h ∙ g)

two_parts : (t : Lexeme) (a b ts us rest : List Lexeme) → ts ≡ a ++ us → us ≡ b ++ rest → t ∷ ts ≡ (t ∷ a ++ b) ++ rest
two_parts t a b ts us rest h g = ap (λ z. t ∷ z) (h ∙ ap (λ z. a ++ z) g ∙ sym (append_assoc a b rest))

else_parts : (t l : Lexeme) (a b c ts us vs ws rest : List Lexeme) → ts ≡ a ++ us → us ≡ b ++ vs → vs ≡ l ∷ ws → ws ≡ c ++ rest → t ∷ ts ≡ (t ∷ a ++ (b ++ l ∷ c)) ++ rest
else_parts t l a b c ts us vs ws rest h1 h2 h3 h4 =
    two_parts t a (b ++ l ∷ c) ts us rest h1 (h2 ∙ ap (λ z. b ++ z) (h3 ∙ ap (λ z. l ∷ z) h4) ∙ sym (append_assoc b (l ∷ c) rest))

-- a phrase up to what ends it
ended_parts : (a : List Lexeme) (e : Lexeme) (ts us vs : List Lexeme) → ts ≡ a ++ e ∷ us → us ≡ vs → ts ≡ (a ++ e ∷ []) ++ vs
ended_parts a e ts us vs h g = h ∙ ap (λ z. a ++ e ∷ z) g ∙ sym (append_assoc a (e ∷ []) vs)

-- ---- what stands behind the name that begins a simple statement

identifier_opens_nothing : (k : Terminal) → is_identifier k ≡ true → closing k ≡ None
identifier_opens_nothing T.Name h = refl
identifier_opens_nothing T.TypeName h = refl
identifier_opens_nothing _ h = absurd cc

behind_name : {t : Lexeme} {us ts : List Lexeme} → Phrase ts → ts ≡ t ∷ us → is_identifier t.terminal ≡ true → Phrase us
behind_name (P.no_token h) e n = absurd (let x = sym e ∙ h in cc)
behind_name {us = us} (P.a_plain {ts1 = ts1} s m parts) e n = let x : ts1 ≡ us = (let y = sym parts ∙ e in cc) in subst Phrase x m
behind_name {t = t} (P.a_group {o = o} c {k = k} h m kc m2 parts) e n =
    let x : o ≡ t = (let y = sym parts ∙ e in cc) in
    let z : Some k ≡ None = sym h ∙ ap (λ (w : Lexeme). closing w.terminal) x ∙ identifier_opens_nothing t.terminal n in
    absurd cc
behind_name {t = t} (P.a_choice {q = q} c h m kc m2 parts) e n =
    let x : q ≡ t = (let y = sym parts ∙ e in cc) in
    let z : false ≡ true = sym (ap is_identifier h) ∙ ap (λ (w : Lexeme). is_identifier w.terminal) x ∙ n in
    absurd cc

loose_no_colon : (k : Terminal) → is_loose k ≡ true → same k T.Colon ≡ false
loose_no_colon k h = by (same k T.Colon) refl
  where
    by : (b : Bool) → same k T.Colon ≡ b → b ≡ false
    by true e = absurd (let z : is_loose k ≡ false = ap is_loose (same_is k T.Colon e) in cc)
    by false e = refl

opening_no_colon : (k c : Terminal) → closing k ≡ Some c → same k T.Colon ≡ false
opening_no_colon k c h = by (same k T.Colon) refl
  where
    by : (b : Bool) → same k T.Colon ≡ b → b ≡ false
    by true e = absurd (let z : closing k ≡ None = ap closing (same_is k T.Colon e) in cc)
    by false e = refl

-- a phrase begins with no colon
no_colon : {us : List Lexeme} (e : Lexeme) (rest : List Lexeme) → Phrase us → e.terminal ≡ T.Semicolon → front T.Colon (us ++ e ∷ rest) ≡ None
no_colon e rest (P.no_token h) ke = rw (h, ke) refl
no_colon e rest (P.a_plain {t = t} s m parts) ke = rw (parts, loose_no_colon t.terminal s) refl
no_colon e rest (P.a_group {o = o} c {k = k} h m kc m2 parts) ke = rw (parts, opening_no_colon o.terminal k h) refl
no_colon e rest (P.a_choice c h m kc m2 parts) ke = rw (parts, h) refl

not_begun : (k j : Terminal) → begins_simple k ≡ true → begins_simple j ≡ false → same k j ≡ false
not_begun k j h n = by (same k j) refl
  where
    by : (b : Bool) → same k j ≡ b → b ≡ false
    by true e = absurd (let z : begins_simple k ≡ begins_simple j = ap begins_simple (same_is k j e) in cc)
    by false e = refl

simple_no_label : (t e : Lexeme) (ts1 rest : List Lexeme) → begins_simple t.terminal ≡ true → Phrase (t ∷ ts1) → e.terminal ≡ T.Semicolon → NoLabel (t ∷ (ts1 ++ e ∷ rest))
unfolding named_front
simple_no_label t e ts1 rest k m ke = record {
  no_name = by (is_identifier t.terminal) refl;
  no_case = rw (not_begun t.terminal T.Case k refl) refl;
  no_default = rw (not_begun t.terminal T.Default k refl) refl;
}
  where
    by : (b : Bool) → is_identifier t.terminal ≡ b → named_front (t ∷ (ts1 ++ e ∷ rest)) ≡ None
    by true n = rw (n, no_colon e rest (behind_name m refl n) ke) refl
    by false n = rw n refl

module _ (I : Gram StatementTree) (i : Reader StatementTree) (p : ExactStatement I i) where
  if_sound : (t : Lexeme) (ts : List Lexeme) (s : StatementTree) (rest : List Lexeme) → t.terminal ≡ T.If → if_at i t.site ts ≡ Ok (s, rest) → Sound (Unlabelled I) (t ∷ ts) s rest
  unfolding if_at
  if_sound t ts s rest k h =
      let e = part_bind condition_exact ts _ (s, rest) h in
      let b = bind_ok (i e.0.1) _ (s, rest) e.2 in
      let y = b.0 in
      let one = p.sound e.0.1 y.0 y.1 b.1 in
      elim (either (front T.Else y.1) _ (done (choose t.site e.0.0 y.0) y.1) (Ok (s, rest)) b.2) [
        | inl v ↦
            let c = bind_ok (i v.0.1) (λ z. done (choose_else t.site e.0.0 y.0 z.0) z.1) (s, rest) v.2 in
            let z = c.0 in
            let q = both_are (choose_else t.site e.0.0 y.0 z.0) s z.1 rest c.2 in
            let f = front_is T.Else y.1 v.0 v.1 in
            let two = p.sound v.0.1 z.0 z.1 c.1 in
            record {
              front = t ∷ e.1.front ++ (one.front ++ v.0.0 ∷ two.front);
              is = is_if_else v.0.0 k e.1.is.1 one.is (not_hangs y.0 y.1 v.0 one.follows v.1) f.0 two.is refl (sym q.0);
              parts = else_parts t v.0.0 e.1.front one.front two.front ts e.0.1 y.1 v.0.1 rest e.1.parts one.parts f.1 (two.parts ∙ ap (λ r. two.front ++ r) q.1);
              follows = ends_as z.0 s z.1 rest (ap hangs (sym q.0)) q.1 two.follows;
            }
        | inr v ↦
            let q = both_are (choose t.site e.0.0 y.0) s y.1 rest v.1 in
            record {
              front = t ∷ e.1.front ++ one.front;
              is = is_if k e.1.is.1 one.is refl (sym q.0);
              parts = two_parts t e.1.front one.front ts e.0.1 rest e.1.parts (one.parts ∙ ap (λ r. one.front ++ r) q.1);
              follows = λ a. ap (front T.Else) (sym q.1) ∙ v.0;
            }
      ]

  switch_sound : (t : Lexeme) (ts : List Lexeme) (s : StatementTree) (rest : List Lexeme) → t.terminal ≡ T.Switch → switch_at i t.site ts ≡ Ok (s, rest) → Sound (Unlabelled I) (t ∷ ts) s rest
  unfolding switch_at
  switch_sound t ts s rest k h =
      let e = part_bind condition_exact ts _ (s, rest) h in
      let b = bind_ok (i e.0.1) _ (s, rest) e.2 in
      let y = b.0 in
      let one = p.sound e.0.1 y.0 y.1 b.1 in
      let q = both_are (switch t.site e.0.0 y.0) s y.1 rest b.2 in
      record {
        front = t ∷ e.1.front ++ one.front;
        is = is_switch k e.1.is.1 one.is refl (sym q.0);
        parts = two_parts t e.1.front one.front ts e.0.1 rest e.1.parts (one.parts ∙ ap (λ r. one.front ++ r) q.1);
        follows = ends_as y.0 s y.1 rest (ap hangs (sym q.0)) q.1 one.follows;
      }

  while_sound : (t : Lexeme) (ts : List Lexeme) (s : StatementTree) (rest : List Lexeme) → t.terminal ≡ T.While → while_at i t.site ts ≡ Ok (s, rest) → Sound (Unlabelled I) (t ∷ ts) s rest
  unfolding while_at
  while_sound t ts s rest k h =
      let e = part_bind condition_exact ts _ (s, rest) h in
      let b = bind_ok (i e.0.1) _ (s, rest) e.2 in
      let y = b.0 in
      let one = p.sound e.0.1 y.0 y.1 b.1 in
      let q = both_are (while_loop t.site e.0.0 y.0) s y.1 rest b.2 in
      record {
        front = t ∷ e.1.front ++ one.front;
        is = is_while k e.1.is.1 one.is refl (sym q.0);
        parts = two_parts t e.1.front one.front ts e.0.1 rest e.1.parts (one.parts ∙ ap (λ r. one.front ++ r) q.1);
        follows = ends_as y.0 s y.1 rest (ap hangs (sym q.0)) q.1 one.follows;
      }

  do_parts : (t w e : Lexeme) (a b ts us vs ws xs rest : List Lexeme) → ts ≡ a ++ us → us ≡ w ∷ vs → vs ≡ b ++ ws → ws ≡ e ∷ xs → xs ≡ rest → t ∷ ts ≡ (t ∷ a ++ (w ∷ b ++ e ∷ [])) ++ rest
  do_parts t w e a b ts us vs ws xs rest h0 h1 h2 h3 h4 =
      let last : vs ≡ (b ++ e ∷ []) ++ rest = h2 ∙ ap (λ z. b ++ z) (h3 ∙ ap (λ z. e ∷ z) h4) ∙ sym (append_assoc b (e ∷ []) rest) in
      two_parts t a (w ∷ b ++ e ∷ []) ts us rest h0 (h1 ∙ ap (λ z. w ∷ z) last)

  do_sound : (t : Lexeme) (ts : List Lexeme) (s : StatementTree) (rest : List Lexeme) → t.terminal ≡ T.Do → do_at i t.site ts ≡ Ok (s, rest) → Sound (Unlabelled I) (t ∷ ts) s rest
  unfolding do_at
  do_sound t ts s rest k h =
      let b = bind_ok (i ts) _ (s, rest) h in
      let y = b.0 in
      let one = p.sound ts y.0 y.1 b.1 in
      let w = front_bind T.While y.1 _ (s, rest) b.2 in
      let c = part_bind condition_exact w.0.1 _ (s, rest) w.3 in
      let e = front_bind T.Semicolon c.0.1 _ (s, rest) c.2 in
      let q = both_are (do_loop t.site y.0 c.0.0) s e.0.1 rest e.3 in
      record {
        front = t ∷ one.front ++ (w.0.0 ∷ c.1.front ++ e.0.0 ∷ []);
        is = is_do w.0.0 e.0.0 k one.is w.1 c.1.is.1 e.1 refl (sym q.0);
        parts = do_parts t w.0.0 e.0.0 one.front c.1.front ts y.1 w.0.1 c.0.1 e.0.1 rest one.parts w.2 c.1.parts e.2 q.1;
        follows = free_of s rest (ap hangs (sym q.0));
      }

  for_parts : (t o d e c : Lexeme) (a b f g ts t0 t1 t2 t3 rest : List Lexeme) → ts ≡ o ∷ t0 → t0 ≡ a ++ d ∷ t1 → t1 ≡ b ++ e ∷ t2 → t2 ≡ f ++ c ∷ t3 → t3 ≡ g ++ rest →
      t ∷ ts ≡ (t ∷ o ∷ a ++ d ∷ (b ++ e ∷ (f ++ c ∷ g))) ++ rest
  for_parts t o d e c a b f g ts t0 t1 t2 t3 rest h0 h1 h2 h3 h4 =
      let three : t2 ≡ (f ++ c ∷ g) ++ rest = h3 ∙ ap (λ z. f ++ c ∷ z) h4 ∙ sym (append_assoc f (c ∷ g) rest) in
      let two : t1 ≡ (b ++ e ∷ (f ++ c ∷ g)) ++ rest = h2 ∙ ap (λ z. b ++ e ∷ z) three ∙ sym (append_assoc b (e ∷ (f ++ c ∷ g)) rest) in
      let one : t0 ≡ (a ++ d ∷ (b ++ e ∷ (f ++ c ∷ g))) ++ rest = h1 ∙ ap (λ z. a ++ d ∷ z) two ∙ sym (append_assoc a (d ∷ (b ++ e ∷ (f ++ c ∷ g))) rest) in
      ap (λ z. t ∷ z) (h0 ∙ ap (λ z. o ∷ z) one)

  for_sound : (t : Lexeme) (ts : List Lexeme) (s : StatementTree) (rest : List Lexeme) → t.terminal ≡ T.For → for_at i t.site ts ≡ Ok (s, rest) → Sound (Unlabelled I) (t ∷ ts) s rest
  unfolding for_at
  for_sound t ts s rest k h =
      let o = front_bind T.OpenParenthesis ts _ (s, rest) h in
      let a = bind_ok (up_to T.Semicolon o.0.1) _ (s, rest) o.3 in
      let b = bind_ok (up_to T.Semicolon a.0.1) _ (s, rest) a.2 in
      let c = bind_ok (up_to T.CloseParenthesis b.0.1) _ (s, rest) b.2 in
      let m = bind_ok (i c.0.1) _ (s, rest) c.2 in
      let y = m.0 in
      let u = up_to_sound T.Semicolon at_semicolon o.0.1 a.0.0 a.0.1 a.1 in
      let v = up_to_sound T.Semicolon at_semicolon a.0.1 b.0.0 b.0.1 b.1 in
      let w = up_to_sound T.CloseParenthesis at_parenthesis b.0.1 c.0.0 c.0.1 c.1 in
      let one = p.sound c.0.1 y.0 y.1 m.1 in
      let q = both_are (for_loop t.site a.0.0 b.0.0 c.0.0 y.0) s y.1 rest m.2 in
      record {
        front = t ∷ o.0.0 ∷ a.0.0 ++ u.last ∷ (b.0.0 ++ v.last ∷ (c.0.0 ++ w.last ∷ one.front));
        is = is_for u.last v.last w.last k o.1 u.is u.ends_it v.is v.ends_it w.is w.ends_it one.is refl (sym q.0);
        parts = for_parts t o.0.0 u.last v.last w.last a.0.0 b.0.0 c.0.0 one.front ts o.0.1 a.0.1 b.0.1 c.0.1 rest o.2 u.parts v.parts w.parts (one.parts ∙ ap (λ r. one.front ++ r) q.1);
        follows = ends_as y.0 s y.1 rest (ap hangs (sym q.0)) q.1 one.follows;
      }

  block_sound : (t : Lexeme) (ts : List Lexeme) (s : StatementTree) (rest : List Lexeme) → t.terminal ≡ T.OpenBrace → block_at i ts ≡ Ok (s, rest) → Sound (Unlabelled I) (t ∷ ts) s rest
  unfolding block_at closed_at
  block_sound t ts s rest k h =
      let b = bind_ok (closed_at T.CloseBrace (items_at (length ts) i) ts) _ (s, rest) h in
      let a = bind_ok (items_at (length ts) i ts) _ b.0 b.1 in
      let m = items_sound p (length ts) ts a.0.0 a.0.1 a.1 in
      let c = front_bind T.CloseBrace a.0.1 _ b.0 a.2 in
      let e = both_are a.0.0 b.0.0 c.0.1 b.0.1 c.3 in
      let q = both_are (block (statements_of b.0.0)) s b.0.1 rest b.2 in
      record {
        front = t ∷ m.front ++ c.0.0 ∷ [];
        is = is_block (between c.0.0 k c.1 (subst (Items I m.front) e.0 m.is) refl) (sym q.0);
        parts = between_parts t c.0.0 m.front ts (t ∷ ts) a.0.1 c.0.1 rest refl m.parts c.2 (e.1 ∙ q.1);
        follows = free_of s rest (ap hangs (sym q.0));
      }

  simple_sound : (ts : List Lexeme) (s : StatementTree) (rest : List Lexeme) → simple_at ts ≡ Ok (s, rest) → Sound (Unlabelled I) ts s rest
  unfolding simple_at
  simple_sound ts s rest h =
      let b = if_bind begins_simple ts _ (s, rest) h in
      let x = bind_ok (up_to T.Semicolon ts) _ (s, rest) b.3 in
      let u = up_to_sound T.Semicolon at_semicolon ts x.0.0 x.0.1 x.1 in
      let q = both_are (simple x.0.0) s x.0.1 rest x.2 in
      by x.0.0 b.0.0 b.0.1 u.last x.0.1 b.1 b.2 u.is u.ends_it u.parts q.0 q.1
    where
      not_semicolon : (k : Terminal) → begins_simple k ≡ true → k ≡ T.Semicolon → ⊥
      not_semicolon k g e = absurd (let z = sym (ap begins_simple e) ∙ g in cc)

      by : (a : List Lexeme) (t : Lexeme) (us : List Lexeme) (e : Lexeme) (vs : List Lexeme) → begins_simple t.terminal ≡ true → ts ≡ t ∷ us → Phrase a → e.terminal ≡ T.Semicolon → ts ≡ a ++ e ∷ vs →
          simple a ≡ s → vs ≡ rest → Sound (Unlabelled I) ts s rest
      by [] t us e vs g f m ke parts q0 q1 = absurd (not_semicolon t.terminal g (let z : t ≡ e = (let y = sym f ∙ parts in cc) in ap (λ (x : Lexeme). x.terminal) z ∙ ke))
      by (u ∷ a) t us e vs g f m ke parts q0 q1 =
          let z : t ≡ u = (let y = sym f ∙ parts in cc) in
          record {
            front = u ∷ a ++ e ∷ [];
            is = is_simple e (ap (λ (x : Lexeme). begins_simple x.terminal) (sym z) ∙ g) m ke refl (sym q0);
            parts = ended_parts (u ∷ a) e ts vs rest parts q1;
            follows = free_of s rest (ap hangs (sym q0));
          }

  goto_sound : (t : Lexeme) (ts : List Lexeme) (s : StatementTree) (rest : List Lexeme) → t.terminal ≡ T.Goto → goto_at t.site ts ≡ Ok (s, rest) → Sound (Unlabelled I) (t ∷ ts) s rest
  unfolding goto_at
  goto_sound t ts s rest k h =
      let x = bind_ok (up_to T.Semicolon ts) _ (s, rest) h in
      let u = up_to_sound T.Semicolon at_semicolon ts x.0.0 x.0.1 x.1 in
      let q = both_are (goto t.site x.0.0) s x.0.1 rest x.2 in
      record { front = t ∷ x.0.0 ++ u.last ∷ []; is = is_goto u.last k u.is u.ends_it refl (sym q.0); parts = ap (λ z. t ∷ z) (ended_parts x.0.0 u.last ts x.0.1 rest u.parts q.1); follows = free_of s rest (ap hangs (sym q.0)) }

  return_sound : (t : Lexeme) (ts : List Lexeme) (s : StatementTree) (rest : List Lexeme) → t.terminal ≡ T.Return → return_at t.site ts ≡ Ok (s, rest) → Sound (Unlabelled I) (t ∷ ts) s rest
  unfolding return_at
  return_sound t ts s rest k h =
      let x = bind_ok (up_to T.Semicolon ts) _ (s, rest) h in
      let u = up_to_sound T.Semicolon at_semicolon ts x.0.0 x.0.1 x.1 in
      let q = both_are (return t.site x.0.0) s x.0.1 rest x.2 in
      record { front = t ∷ x.0.0 ++ u.last ∷ []; is = is_return u.last k u.is u.ends_it refl (sym q.0); parts = ap (λ z. t ∷ z) (ended_parts x.0.0 u.last ts x.0.1 rest u.parts q.1); follows = free_of s rest (ap hangs (sym q.0)) }

  break_sound : (t : Lexeme) (ts : List Lexeme) (s : StatementTree) (rest : List Lexeme) → t.terminal ≡ T.Break → word_at (break t.site) ts ≡ Ok (s, rest) → Sound (Unlabelled I) (t ∷ ts) s rest
  unfolding word_at
  break_sound t ts s rest k h =
      let f = front_bind T.Semicolon ts _ (s, rest) h in
      let q = both_are (break t.site) s f.0.1 rest f.3 in
      record { front = t ∷ f.0.0 ∷ []; is = is_break k f.1 refl (sym q.0); parts = ap (λ z. t ∷ z) (f.2 ∙ ap (λ z. f.0.0 ∷ z) q.1); follows = free_of s rest (ap hangs (sym q.0)) }

  continue_sound : (t : Lexeme) (ts : List Lexeme) (s : StatementTree) (rest : List Lexeme) → t.terminal ≡ T.Continue → word_at (continue t.site) ts ≡ Ok (s, rest) → Sound (Unlabelled I) (t ∷ ts) s rest
  unfolding word_at
  continue_sound t ts s rest k h =
      let f = front_bind T.Semicolon ts _ (s, rest) h in
      let q = both_are (continue t.site) s f.0.1 rest f.3 in
      record { front = t ∷ f.0.0 ∷ []; is = is_continue k f.1 refl (sym q.0); parts = ap (λ z. t ∷ z) (f.2 ∙ ap (λ z. f.0.0 ∷ z) q.1); follows = free_of s rest (ap hangs (sym q.0)) }

  empty_sound : (t : Lexeme) (ts : List Lexeme) (s : StatementTree) (rest : List Lexeme) → t.terminal ≡ T.Semicolon → done empty ts ≡ Ok (s, rest) → Sound (Unlabelled I) (t ∷ ts) s rest
  empty_sound t ts s rest k h =
      let q = both_are empty s ts rest h in
      record { front = t ∷ []; is = is_empty k refl (sym q.0); parts = ap (λ z. t ∷ z) q.1; follows = free_of s rest (ap hangs (sym q.0)) }

  by_sound : (k : Terminal) (t : Lexeme) (ts : List Lexeme) (s : StatementTree) (rest : List Lexeme) → t.terminal ≡ k → unlabelled_by k i t (t ∷ ts) ts ≡ Ok (s, rest) → Sound (Unlabelled I) (t ∷ ts) s rest
  by_sound T.Semicolon t ts s rest k h = empty_sound t ts s rest k h
  by_sound T.OpenBrace t ts s rest k h = block_sound t ts s rest k h
  by_sound T.If t ts s rest k h = if_sound t ts s rest k h
  by_sound T.Switch t ts s rest k h = switch_sound t ts s rest k h
  by_sound T.While t ts s rest k h = while_sound t ts s rest k h
  by_sound T.Do t ts s rest k h = do_sound t ts s rest k h
  by_sound T.For t ts s rest k h = for_sound t ts s rest k h
  by_sound T.Goto t ts s rest k h = goto_sound t ts s rest k h
  by_sound T.Break t ts s rest k h = break_sound t ts s rest k h
  by_sound T.Continue t ts s rest k h = continue_sound t ts s rest k h
  by_sound T.Return t ts s rest k h = return_sound t ts s rest k h
  by_sound _ t ts s rest k h = simple_sound (t ∷ ts) s rest h

  unlabelled_sound : (ts : List Lexeme) (s : StatementTree) (rest : List Lexeme) → unlabelled_of i ts ≡ Ok (s, rest) → Sound (Unlabelled I) ts s rest
  unfolding unlabelled_of
  unlabelled_sound [] s rest h = absurd cc
  unlabelled_sound (t ∷ ts) s rest h = by_sound t.terminal t ts s rest refl h

  -- ---- what is in the grammar is read

  by_first : (k : Terminal) (t : Lexeme) (ts : List Lexeme) → t.terminal ≡ k → unlabelled_of i (t ∷ ts) ≡ unlabelled_by k i t (t ∷ ts) ts
  unfolding unlabelled_of
  by_first k t ts h = ap (λ z. unlabelled_by z i t (t ∷ ts) ts) h

  simple_by : (k : Terminal) (t : Lexeme) (all ts : List Lexeme) → begins_simple k ≡ true → unlabelled_by k i t all ts ≡ simple_at all
  simple_by T.Semicolon t all ts h = absurd cc
  simple_by T.OpenBrace t all ts h = absurd cc
  simple_by T.If t all ts h = absurd cc
  simple_by T.Switch t all ts h = absurd cc
  simple_by T.While t all ts h = absurd cc
  simple_by T.Do t all ts h = absurd cc
  simple_by T.For t all ts h = absurd cc
  simple_by T.Goto t all ts h = absurd cc
  simple_by T.Break t all ts h = absurd cc
  simple_by T.Continue t all ts h = absurd cc
  simple_by T.Return t all ts h = absurd cc
  simple_by _ t all ts h = refl

  -- a phrase with its semicolon
  ended : (a : List Lexeme) (e : Lexeme) (rest : List Lexeme) → Phrase a → e.terminal ≡ T.Semicolon → up_to T.Semicolon ((a ++ e ∷ []) ++ rest) ≡ Ok (a, rest)
  ended a e rest m ke = ap (up_to T.Semicolon) (append_assoc a (e ∷ []) rest) ∙ up_to_complete T.Semicolon at_semicolon a e rest m ke

  condition_read : (ts a rest : List Lexeme) (o : Lexeme) → Between T.OpenParenthesis T.CloseParenthesis IsHeld ts o a → condition_at (ts ++ rest) ≡ Ok (a, rest)
  condition_read ts a rest o b = condition_there rest b

  unlabelled_complete : (ts : List Lexeme) (s : StatementTree) (rest : List Lexeme) → Unlabelled I ts s → EndsBefore s rest → unlabelled_of i (ts ++ rest) ≡ Ok (s, rest)
  unfolding block_at closed_at if_at switch_at while_at do_at for_at goto_at return_at word_at simple_at
  unlabelled_complete ts s rest (is_empty {t = t} k parts g) f = rw (parts, g) (by_first T.Semicolon t rest k)
  unlabelled_complete ts s rest (is_simple {t = t} e {ts1 = ts1} k m ke parts g) f =
      let one : up_to T.Semicolon ((t ∷ ts1 ++ e ∷ []) ++ rest) ≡ Ok (t ∷ ts1, rest) = ended (t ∷ ts1) e rest m ke in
      let inner : simple_at ((t ∷ ts1 ++ e ∷ []) ++ rest) ≡ Ok (simple (t ∷ ts1), rest) = rw (k, one) refl in
      rw (parts, g) (by_first t.terminal t ((ts1 ++ e ∷ []) ++ rest) refl ∙ simple_by t.terminal t ((t ∷ ts1 ++ e ∷ []) ++ rest) ((ts1 ++ e ∷ []) ++ rest) k ∙ inner)
  unlabelled_complete ts s rest (is_block {ss = ss} (between {o = o} c {ts1 = ts1} ko kc m parts) g) f =
      let all : List Lexeme = (ts1 ++ c ∷ []) ++ rest in
      let same_all : all ≡ ts1 ++ c ∷ rest = append_assoc ts1 (c ∷ []) rest in
      let fits : length ts1 < length (ts1 ++ c ∷ rest) = omega (arith, length-append ts1 (c ∷ rest)) in
      let one : items_at (length all) i all ≡ Ok (ss, c ∷ rest) = rw same_all (items_complete p (length (ts1 ++ c ∷ rest)) c rest m kc fits) in
      let inner : block_at i all ≡ Ok (block (statements_of ss), rest) = rw (one, front_here T.CloseBrace c rest kc) refl in
      rw (parts, g) (by_first T.OpenBrace o all ko ∙ inner)
  unlabelled_complete ts s rest (is_if {t = t} {o = o} {ts1 = ts1} {ts2 = ts2} {a = a} {s1 = s1} k b m parts g) f =
      let one : condition_at (ts1 ++ (ts2 ++ rest)) ≡ Ok (a, ts2 ++ rest) = condition_read ts1 a (ts2 ++ rest) o b in
      let none : front T.Else rest ≡ None = f (ap hangs g) in
      let two : i (ts2 ++ rest) ≡ Ok (s1, rest) = p.complete ts2 s1 rest m (λ h. none) in
      let inner : if_at i t.site (ts1 ++ (ts2 ++ rest)) ≡ Ok (choose t.site a s1, rest) = rw (one, two, none) refl in
      rw (parts, append_assoc ts1 ts2 rest, g) (by_first T.If t (ts1 ++ (ts2 ++ rest)) k ∙ inner)
  unlabelled_complete ts s rest (is_if_else {t = t} {o = o} l {ts1 = ts1} {ts2 = ts2} {ts3 = ts3} {a = a} {s1 = s1} {s2 = s2} k b m nh kl m2 parts g) f =
      let one : condition_at (ts1 ++ (ts2 ++ l ∷ (ts3 ++ rest))) ≡ Ok (a, ts2 ++ l ∷ (ts3 ++ rest)) = condition_read ts1 a (ts2 ++ l ∷ (ts3 ++ rest)) o b in
      let two : i (ts2 ++ l ∷ (ts3 ++ rest)) ≡ Ok (s1, l ∷ (ts3 ++ rest)) = p.complete ts2 s1 (l ∷ (ts3 ++ rest)) m (free_of s1 (l ∷ (ts3 ++ rest)) nh) in
      let three : i (ts3 ++ rest) ≡ Ok (s2, rest) = p.complete ts3 s2 rest m2 (ends_as s s2 rest rest (sym (ap hangs g)) refl f) in
      let inner : if_at i t.site (ts1 ++ (ts2 ++ l ∷ (ts3 ++ rest))) ≡ Ok (choose_else t.site a s1 s2, rest) = rw (one, two, front_here T.Else l (ts3 ++ rest) kl, three) refl in
      let regroup : ts ++ rest ≡ t ∷ ts1 ++ (ts2 ++ l ∷ (ts3 ++ rest)) = rw (parts, append_assoc ts1 (ts2 ++ l ∷ ts3) rest, append_assoc ts2 (l ∷ ts3) rest) refl in
      rw (regroup, g) (by_first T.If t (ts1 ++ (ts2 ++ l ∷ (ts3 ++ rest))) k ∙ inner)
  unlabelled_complete ts s rest (is_switch {t = t} {o = o} {ts1 = ts1} {ts2 = ts2} {a = a} {s1 = s1} k b m parts g) f =
      let one : condition_at (ts1 ++ (ts2 ++ rest)) ≡ Ok (a, ts2 ++ rest) = condition_read ts1 a (ts2 ++ rest) o b in
      let two : i (ts2 ++ rest) ≡ Ok (s1, rest) = p.complete ts2 s1 rest m (ends_as s s1 rest rest (sym (ap hangs g)) refl f) in
      let inner : switch_at i t.site (ts1 ++ (ts2 ++ rest)) ≡ Ok (switch t.site a s1, rest) = rw (one, two) refl in
      rw (parts, append_assoc ts1 ts2 rest, g) (by_first T.Switch t (ts1 ++ (ts2 ++ rest)) k ∙ inner)
  unlabelled_complete ts s rest (is_while {t = t} {o = o} {ts1 = ts1} {ts2 = ts2} {a = a} {s1 = s1} k b m parts g) f =
      let one : condition_at (ts1 ++ (ts2 ++ rest)) ≡ Ok (a, ts2 ++ rest) = condition_read ts1 a (ts2 ++ rest) o b in
      let two : i (ts2 ++ rest) ≡ Ok (s1, rest) = p.complete ts2 s1 rest m (ends_as s s1 rest rest (sym (ap hangs g)) refl f) in
      let inner : while_at i t.site (ts1 ++ (ts2 ++ rest)) ≡ Ok (while_loop t.site a s1, rest) = rw (one, two) refl in
      rw (parts, append_assoc ts1 ts2 rest, g) (by_first T.While t (ts1 ++ (ts2 ++ rest)) k ∙ inner)
  unlabelled_complete ts s rest (is_do {t = t} {o = o} w e {ts1 = ts1} {ts2 = ts2} {a = a} {s1 = s1} k m kw b ke parts g) f =
      let one : i (ts1 ++ w ∷ (ts2 ++ e ∷ rest)) ≡ Ok (s1, w ∷ (ts2 ++ e ∷ rest)) = p.complete ts1 s1 (w ∷ (ts2 ++ e ∷ rest)) m (λ h. front_other T.While T.Else w (ts2 ++ e ∷ rest) kw refl) in
      let two : condition_at (ts2 ++ e ∷ rest) ≡ Ok (a, e ∷ rest) = condition_read ts2 a (e ∷ rest) o b in
      let inner : do_at i t.site (ts1 ++ w ∷ (ts2 ++ e ∷ rest)) ≡ Ok (do_loop t.site s1 a, rest) = rw (one, front_here T.While w (ts2 ++ e ∷ rest) kw, two, front_here T.Semicolon e rest ke) refl in
      let regroup : ts ++ rest ≡ t ∷ ts1 ++ w ∷ (ts2 ++ e ∷ rest) = rw (parts, append_assoc ts1 (w ∷ ts2 ++ e ∷ []) rest, append_assoc ts2 (e ∷ []) rest) refl in
      rw (regroup, g) (by_first T.Do t (ts1 ++ w ∷ (ts2 ++ e ∷ rest)) k ∙ inner)
  unlabelled_complete ts s rest (is_for {t = t} {o = o} e1 e2 c {ts1 = ts1} {ts2 = ts2} {ts3 = ts3} {ts4 = ts4} {s1 = s1} k ko m1 k1 m2 k2 m3 kc m parts g) f =
      let last : List Lexeme = ts4 ++ rest in
      let one : up_to T.Semicolon (ts1 ++ e1 ∷ (ts2 ++ e2 ∷ (ts3 ++ c ∷ last))) ≡ Ok (ts1, ts2 ++ e2 ∷ (ts3 ++ c ∷ last)) = up_to_complete T.Semicolon at_semicolon ts1 e1 (ts2 ++ e2 ∷ (ts3 ++ c ∷ last)) m1 k1 in
      let two : up_to T.Semicolon (ts2 ++ e2 ∷ (ts3 ++ c ∷ last)) ≡ Ok (ts2, ts3 ++ c ∷ last) = up_to_complete T.Semicolon at_semicolon ts2 e2 (ts3 ++ c ∷ last) m2 k2 in
      let three : up_to T.CloseParenthesis (ts3 ++ c ∷ last) ≡ Ok (ts3, last) = up_to_complete T.CloseParenthesis at_parenthesis ts3 c last m3 kc in
      let four : i last ≡ Ok (s1, rest) = p.complete ts4 s1 rest m (ends_as s s1 rest rest (sym (ap hangs g)) refl f) in
      let inner : for_at i t.site (o ∷ ts1 ++ e1 ∷ (ts2 ++ e2 ∷ (ts3 ++ c ∷ last))) ≡ Ok (for_loop t.site ts1 ts2 ts3 s1, rest) =
      rw (front_here T.OpenParenthesis o (ts1 ++ e1 ∷ (ts2 ++ e2 ∷ (ts3 ++ c ∷ last))) ko, one, two, three, four) refl in
      let regroup : ts ++ rest ≡ t ∷ o ∷ ts1 ++ e1 ∷ (ts2 ++ e2 ∷ (ts3 ++ c ∷ last)) =
      rw (parts, append_assoc ts1 (e1 ∷ (ts2 ++ e2 ∷ (ts3 ++ c ∷ ts4))) rest, append_assoc ts2 (e2 ∷ (ts3 ++ c ∷ ts4)) rest, append_assoc ts3 (c ∷ ts4) rest) refl in
      rw (regroup, g) (by_first T.For t (o ∷ ts1 ++ e1 ∷ (ts2 ++ e2 ∷ (ts3 ++ c ∷ last))) k ∙ inner)
  unlabelled_complete ts s rest (is_goto {t = t} e {ts1 = ts1} k m ke parts g) f =
      let inner : goto_at t.site ((ts1 ++ e ∷ []) ++ rest) ≡ Ok (goto t.site ts1, rest) = rw (ended ts1 e rest m ke) refl in
      rw (parts, g) (by_first T.Goto t ((ts1 ++ e ∷ []) ++ rest) k ∙ inner)
  unlabelled_complete ts s rest (is_break {t = t} {e = e} k ke parts g) f =
      let inner : word_at (break t.site) (e ∷ rest) ≡ Ok (break t.site, rest) = rw (front_here T.Semicolon e rest ke) refl in
      rw (parts, g) (by_first T.Break t (e ∷ rest) k ∙ inner)
  unlabelled_complete ts s rest (is_continue {t = t} {e = e} k ke parts g) f =
      let inner : word_at (continue t.site) (e ∷ rest) ≡ Ok (continue t.site, rest) = rw (front_here T.Semicolon e rest ke) refl in
      rw (parts, g) (by_first T.Continue t (e ∷ rest) k ∙ inner)
  unlabelled_complete ts s rest (is_return {t = t} e {ts1 = ts1} k m ke parts g) f =
      let inner : return_at t.site ((ts1 ++ e ∷ []) ++ rest) ≡ Ok (return t.site ts1, rest) = rw (ended ts1 e rest m ke) refl in
      rw (parts, g) (by_first T.Return t ((ts1 ++ e ∷ []) ++ rest) k ∙ inner)

  -- ---- what stands before it

  word_no_label : (k : Terminal) (t : Lexeme) (us : List Lexeme) → t.terminal ≡ k → is_identifier k ≡ false → same k T.Case ≡ false → same k T.Default ≡ false → NoLabel (t ∷ us)
  word_no_label k t us h n c d = record { no_name = not_named k t us h n; no_case = front_other k T.Case t us h c; no_default = front_other k T.Default t us h d }

  unlabelled_no_label : (ts : List Lexeme) (s : StatementTree) (rest : List Lexeme) → Unlabelled I ts s → NoLabel (ts ++ rest)
  unlabelled_no_label ts s rest (is_empty {t = t} k parts g) = rw parts (word_no_label T.Semicolon t rest k refl refl refl)
  unlabelled_no_label ts s rest (is_simple {t = t} e {ts1 = ts1} k m ke parts g) = rw (parts, append_assoc ts1 (e ∷ []) rest) (simple_no_label t e ts1 rest k m ke)
  unlabelled_no_label ts s rest (is_block (between {o = o} c {ts1 = ts1} ko kc m parts) g) = rw parts (word_no_label T.OpenBrace o ((ts1 ++ c ∷ []) ++ rest) ko refl refl refl)
  unlabelled_no_label ts s rest (is_if {t = t} {ts1 = ts1} {ts2 = ts2} k b m parts g) = rw parts (word_no_label T.If t ((ts1 ++ ts2) ++ rest) k refl refl refl)
  unlabelled_no_label ts s rest (is_if_else {t = t} l {ts1 = ts1} {ts2 = ts2} {ts3 = ts3} k b m nh kl m2 parts g) = rw parts (word_no_label T.If t ((ts1 ++ (ts2 ++ l ∷ ts3)) ++ rest) k refl refl refl)
  unlabelled_no_label ts s rest (is_switch {t = t} {ts1 = ts1} {ts2 = ts2} k b m parts g) = rw parts (word_no_label T.Switch t ((ts1 ++ ts2) ++ rest) k refl refl refl)
  unlabelled_no_label ts s rest (is_while {t = t} {ts1 = ts1} {ts2 = ts2} k b m parts g) = rw parts (word_no_label T.While t ((ts1 ++ ts2) ++ rest) k refl refl refl)
  unlabelled_no_label ts s rest (is_do {t = t} w e {ts1 = ts1} {ts2 = ts2} k m kw b ke parts g) = rw parts (word_no_label T.Do t ((ts1 ++ (w ∷ ts2 ++ e ∷ [])) ++ rest) k refl refl refl)
  unlabelled_no_label ts s rest (is_for {t = t} {o = o} e1 e2 c {ts1 = ts1} {ts2 = ts2} {ts3 = ts3} {ts4 = ts4} k ko m1 k1 m2 k2 m3 kc m parts g) =
      rw parts (word_no_label T.For t (o ∷ (ts1 ++ e1 ∷ (ts2 ++ e2 ∷ (ts3 ++ c ∷ ts4))) ++ rest) k refl refl refl)
  unlabelled_no_label ts s rest (is_goto {t = t} e {ts1 = ts1} k m ke parts g) = rw parts (word_no_label T.Goto t ((ts1 ++ e ∷ []) ++ rest) k refl refl refl)
  unlabelled_no_label ts s rest (is_break {t = t} {e = e} k ke parts g) = rw parts (word_no_label T.Break t (e ∷ rest) k refl refl refl)
  unlabelled_no_label ts s rest (is_continue {t = t} {e = e} k ke parts g) = rw parts (word_no_label T.Continue t (e ∷ rest) k refl refl refl)
  unlabelled_no_label ts s rest (is_return {t = t} e {ts1 = ts1} k m ke parts g) = rw parts (word_no_label T.Return t ((ts1 ++ e ∷ []) ++ rest) k refl refl refl)

  unlabelled_balanced : {ts : List Lexeme} {s : StatementTree} → Unlabelled I ts s → Balanced ts
  unlabelled_balanced (is_empty {t = t} k parts g) = rw parts (one_of t T.Semicolon k refl refl)
  unlabelled_balanced (is_simple e k m ke parts g) = rw parts (balanced_both (phrase_balanced m) (one_of e T.Semicolon ke refl refl))
  unlabelled_balanced (is_block b g) = between_balanced refl (λ us x g. items_balanced p g) b
  unlabelled_balanced (is_if {t = t} k b m parts g) = rw parts (balanced_both (one_of t T.If k refl refl) (balanced_both (between_balanced refl (λ us x g. held_balanced g) b) (p.balanced m)))
  unlabelled_balanced (is_if_else {t = t} l k b m nh kl m2 parts g) =
      rw parts (balanced_both (one_of t T.If k refl refl) (balanced_both (between_balanced refl (λ us x g. held_balanced g) b) (balanced_both (p.balanced m) (balanced_both (one_of l T.Else kl refl refl) (p.balanced m2)))))
  unlabelled_balanced (is_switch {t = t} k b m parts g) = rw parts (balanced_both (one_of t T.Switch k refl refl) (balanced_both (between_balanced refl (λ us x g. held_balanced g) b) (p.balanced m)))
  unlabelled_balanced (is_while {t = t} k b m parts g) = rw parts (balanced_both (one_of t T.While k refl refl) (balanced_both (between_balanced refl (λ us x g. held_balanced g) b) (p.balanced m)))
  unlabelled_balanced (is_do {t = t} w e k m kw b ke parts g) =
      rw parts (balanced_both (one_of t T.Do k refl refl) (balanced_both (p.balanced m) (balanced_both (one_of w T.While kw refl refl) (balanced_both (between_balanced refl (λ us x g. held_balanced g) b) (one_of e T.Semicolon ke refl refl)))))
  unlabelled_balanced (is_for {t = t} {o = o} e1 e2 c {ts1 = ts1} {ts2 = ts2} {ts3 = ts3} {ts4 = ts4} k ko m1 k1 m2 k2 m3 kc m parts g) =
      let heads : Balanced (ts1 ++ e1 ∷ (ts2 ++ e2 ∷ ts3)) = balanced_both (phrase_balanced m1) (balanced_both (one_of e1 T.Semicolon k1 refl refl) (balanced_both (phrase_balanced m2) (balanced_both (one_of e2 T.Semicolon k2 refl refl) (phrase_balanced m3)))) in
      let regroup : ts1 ++ e1 ∷ (ts2 ++ e2 ∷ (ts3 ++ c ∷ ts4)) ≡ (ts1 ++ e1 ∷ (ts2 ++ e2 ∷ ts3)) ++ c ∷ ts4 =
      rw (append_assoc ts1 (e1 ∷ (ts2 ++ e2 ∷ ts3)) (c ∷ ts4), append_assoc ts2 (e2 ∷ ts3) (c ∷ ts4)) refl in
      rw parts (balanced_both (one_of t T.For k refl refl) (a_group c (ap closing ko) heads kc (p.balanced m) (ap (λ z. o ∷ z) regroup)))
  unlabelled_balanced (is_goto {t = t} e k m ke parts g) = rw parts (balanced_both (one_of t T.Goto k refl refl) (balanced_both (phrase_balanced m) (one_of e T.Semicolon ke refl refl)))
  unlabelled_balanced (is_break {t = t} {e = e} k ke parts g) = rw parts (balanced_both (one_of t T.Break k refl refl) (one_of e T.Semicolon ke refl refl))
  unlabelled_balanced (is_continue {t = t} {e = e} k ke parts g) = rw parts (balanced_both (one_of t T.Continue k refl refl) (one_of e T.Semicolon ke refl refl))
  unlabelled_balanced (is_return {t = t} e k m ke parts g) = rw parts (balanced_both (one_of t T.Return k refl refl) (balanced_both (phrase_balanced m) (one_of e T.Semicolon ke refl refl)))

  -- ---- with labels

  statement_sound : (ts : List Lexeme) (s : StatementTree) (rest : List Lexeme) → statement_of i ts ≡ Ok (s, rest) → Sound (StatementOf I) ts s rest
  unfolding statement_of
  statement_sound ts s rest h =
      let b = bind_ok (labels_at (length ts) ts) _ (s, rest) h in
      let m = labels_sound (length ts) ts b.0.0 b.0.1 b.1 in
      let c = bind_ok (unlabelled_of i b.0.1) _ (s, rest) b.2 in
      let one = unlabelled_sound b.0.1 c.0.0 c.0.1 c.1 in
      let q = both_are (labelled_by b.0.0 c.0.0) s c.0.1 rest c.2 in
      record {
        front = m.front ++ one.front;
        is = is_labelled m.is one.is refl (sym q.0);
        parts = m.parts ∙ ap (λ z. m.front ++ z) (one.parts ∙ ap (λ z. one.front ++ z) q.1) ∙ sym (append_assoc m.front one.front rest);
        follows = ends_as c.0.0 s c.0.1 rest (sym (ap hangs q.0) ∙ hangs_labelled b.0.0 c.0.0) q.1 one.follows;
      }

  statement_complete : (ts : List Lexeme) (s : StatementTree) (rest : List Lexeme) → StatementOf I ts s → EndsBefore s rest → statement_of i (ts ++ rest) ≡ Ok (s, rest)
  unfolding statement_of
  statement_complete ts s rest (is_labelled {ts1 = ts1} {ts2 = ts2} {ls = ls} {s1 = s1} m u parts g) f =
      let n : ℕ = length (ts1 ++ (ts2 ++ rest)) in
      let fits : length ts1 ≤ n = omega (arith, length-append ts1 (ts2 ++ rest)) in
      let one : labels_at n (ts1 ++ (ts2 ++ rest)) ≡ Ok (ls, ts2 ++ rest) = labels_complete n (ts2 ++ rest) m (unlabelled_no_label ts2 s1 rest u) fits in
      let two : unlabelled_of i (ts2 ++ rest) ≡ Ok (s1, rest) = unlabelled_complete ts2 s1 rest u (ends_as s s1 rest rest (sym (ap hangs g ∙ hangs_labelled ls s1)) refl f) in
      rw (parts, g, append_assoc ts1 ts2 rest, one, two) refl

  statement_balanced : {ts : List Lexeme} {s : StatementTree} → StatementOf I ts s → Balanced ts
  statement_balanced (is_labelled m u parts g) = rw parts (balanced_both (labels_balanced m) (unlabelled_balanced u))

  -- nothing begins with such a word
  away : (k : Terminal) → is_identifier k ≡ false → same k T.Case ≡ false → same k T.Default ≡ false → ((t : Lexeme) (all ts : List Lexeme) → unlabelled_by k i t all ts ≡ simple_at all) → begins_simple k ≡ false → AwayFrom k (statement_of i)
  unfolding statement_of labels_at label_at simple_at
  away k n c d by_simple b t ts x h e =
      let l = word_no_label k t ts h n c d in
      let none : unlabelled_of i (t ∷ ts) ≡ Err (wrong (t ∷ ts)) = by_first k t ts h ∙ by_simple t (t ∷ ts) ts ∙ rw (h, b) refl in
      let all : statement_of i (t ∷ ts) ≡ Err (wrong (t ∷ ts)) = rw (l.no_name, l.no_case, l.no_default, none) refl in
      let z : Err (wrong (t ∷ ts)) ≡ Ok x = sym all ∙ e in
      absurd cc

  nothing_read : (x : StatementTree × List Lexeme) → statement_of i [] ≡ Ok x → ⊥
  unfolding statement_of labels_at label_at named_front unlabelled_of
  nothing_read x h = absurd cc

  statement_exact : ExactStatement (StatementOf I) (statement_of i)
  statement_exact = record {
    sound = statement_sound;
    complete = statement_complete;
    balanced = statement_balanced;
    no_else = away T.Else refl refl refl (λ t all ts. refl) refl;
    no_brace = away T.CloseBrace refl refl refl (λ t all ts. refl) refl;
    some = nothing_read;
  }

-- ---- every depth

nothing_exact : ExactStatement nothing_inside no_statement
nothing_exact = record {
  sound = λ ts s rest h. absurd cc;
  complete = λ ts s rest g f. absurd g;
  balanced = λ g. absurd g;
  no_else = λ t ts x h e. absurd cc;
  no_brace = λ t ts x h e. absurd cc;
  some = λ x e. absurd cc;
}

pub statement_at_exact : (d : ℕ) → ExactStatement (IsStatement d) (statement_at d)
unfolding statement_at IsStatement
statement_at_exact zero = nothing_exact
statement_at_exact (suc d) = statement_exact (IsStatement d) (statement_at d) (statement_at_exact d)
