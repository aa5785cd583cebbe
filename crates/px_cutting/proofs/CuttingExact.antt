-- Cutting as it is done, token by token, and that it is the cutting of the definition.
use Rattle.std.proofs.Common.{get_or, ◌+◌, ◌-◌, drop, length-drop, ◌≡◌, ◌≢◌, ◌⊎◌, ℕ, zero, suc, ◌≤◌, ◌<◌, Bool, true, false, cond, List, [], ◌∷◌, ◌++◌, length, Result, Ok, Err, refl, sym, ap, subst, ◌∙◌, append_assoc, length-append, arith, inl, inr}
use Rattle.std.proofs.lemmas.List.{append-nil, drop-drop}
use Rattle.std.proofs.Math.ListN.{drop_of_length-le}
use Rattle.px_base.specs.declared.trace.Site.{Site}
use Rattle.px_lexer.specs.declared.token.Token.{Token}
use Rattle.px_cutting.specs.declared.cutting.Span.{Span}
use Rattle.px_cutting.specs.declared.roles.Pair.{Pair}
use Rattle.px_cutting.specs.declared.roles.Pair.TheVariants.{Parentheses, Brackets, Braces}
use Rattle.px_cutting.specs.declared.roles.Role.{Role}
use Rattle.px_cutting.specs.declared.roles.Role.TheVariants.{Opens, Closes, Semicolon, Directive, Other}
use Rattle.px_cutting.specs.Roles.{role_of, is_directive, is_plain, goes_on, is_parentheses, opens_body}
use Rattle.px_cutting.specs.Cutting.{role, Balanced, no_token, a_plain, a_group, Broken, file_ends, no_match, broken_inside, Outcome, ends, stops, runs_out, GoesOn, at_file_end, at_semicolon, at_body, after_group, after_other, at_close, at_broken, with_spans, span, Cuts, nothing_left, a_directive, an_item, stopped, left_over, IsFirstItem}
use Rattle.px_cutting.specs.declared.cutting.Cut.{Cut}
use Rattle.px_cutting.specs.declared.cutting.Cut.TheVariants as C
use Rattle.px_cutting.specs.declared.cutting.ItemFault.{ItemFault}
use Rattle.px_cutting.specs.declared.cutting.ItemFault.TheVariants.{Unbalanced}
use Rattle.px_cutting.specs.Scan.{cut_outcome, FitsIn, Bracket, same_pair, turn, scan}

same_self : (b : Pair) → same_pair b b ≡ true
same_self Parentheses = refl
same_self Brackets = refl
same_self Braces = refl

not_same : (b b' : Pair) → b' ≢ b → same_pair b b' ≡ false
not_same Parentheses Parentheses h = absurd (h refl)
not_same Brackets Brackets h = absurd (h refl)
not_same Braces Braces h = absurd (h refl)
not_same Parentheses Brackets h = refl
not_same Parentheses Braces h = refl
not_same Brackets Parentheses h = refl
not_same Brackets Braces h = refl
not_same Braces Parentheses h = refl
not_same Braces Brackets h = refl

-- inside brackets, a token that is no bracket changes nothing
plain_turn : (r : Role) (s : Site) (o : Bracket) (os : List Bracket) (body after : Bool) (ts : List Token) (next : List Bracket → Bool → Bool → Outcome) →
    is_plain r ≡ true → turn r s (o ∷ os) body after ts next ≡ next (o ∷ os) body false
plain_turn (Opens b) s o os body after ts next h = absurd cc
plain_turn (Closes b) s o os body after ts next h = absurd cc
plain_turn Semicolon s o os body after ts next h = refl
plain_turn Directive s o os body after ts next h = refl
plain_turn Other s o os body after ts next h = refl

other_turn : (r : Role) (s : Site) (os : List Bracket) (body after : Bool) (ts : List Token) (next : List Bracket → Bool → Bool → Outcome) →
    goes_on r ≡ true → turn r s os body after ts next ≡ next os body false
other_turn (Opens b) s os body after ts next h = absurd cc
other_turn (Closes b) s os body after ts next h = absurd cc
other_turn Semicolon s os body after ts next h = absurd cc
other_turn Directive s [] body after ts next h = refl
other_turn Directive s (o ∷ os) body after ts next h = refl
other_turn Other s [] body after ts next h = refl
other_turn Other s (o ∷ os) body after ts next h = refl

-- tokens whose brackets match are passed over inside brackets
pub passes : {ts : List Token} (o : Bracket) (os : List Bracket) (body : Bool) (rest : List Token) → Balanced ts → scan (o ∷ os) body false (ts ++ rest) ≡ scan (o ∷ os) body false rest
passes o os body rest (no_token h) = rw h refl
passes o os body rest (a_plain {t = t} {ts1 = ts1} h m parts) =
    rw parts (plain_turn (role t) t.site o os body false (ts1 ++ rest) (λ a b c. scan a b c (ts1 ++ rest)) h ∙ passes o os body rest m)
passes o os body rest (a_group {o = p} c {b = b} {ts1 = ts1} {ts2 = ts2} k m kc n parts) =
    let one : scan ((b, p.site) ∷ o ∷ os) body false (ts1 ++ (c ∷ ts2 ++ rest)) ≡ scan ((b, p.site) ∷ o ∷ os) body false (c ∷ ts2 ++ rest) = passes (b, p.site) (o ∷ os) body (c ∷ ts2 ++ rest) m in
    let two : scan ((b, p.site) ∷ o ∷ os) body false (c ∷ ts2 ++ rest) ≡ scan (o ∷ os) body false (ts2 ++ rest) = rw (kc, same_self b) refl in
    rw (parts, append_assoc ts1 (c ∷ ts2) rest, k) (one ∙ two ∙ passes o os body rest n)

-- what is broken inside brackets stops the scan there
pub broken_is : {ts : List Token} {place : Site} (b : Pair) (s : Site) (os : List Bracket) (body : Bool) → Broken b s ts place → scan ((b, s) ∷ os) body false ts ≡ stops place
broken_is b s os body (file_ends {ts = ts} m g) =
    rw (← append-nil ts, g) (passes (b, s) os body [] m)
broken_is b s os body (no_match {b' = b'} {ts1 = ts1} c ts2 m k ne parts g) =
    let last : scan ((b, s) ∷ os) body false (c ∷ ts2) ≡ stops c.site = rw (k, not_same b b' ne) refl in
    rw (parts, g) (passes (b, s) os body (c ∷ ts2) m ∙ last)
broken_is b s os body (broken_inside {b' = b'} {place = place} {ts1 = ts1} {ts2 = ts2} o m k h parts) =
    let open_it : scan ((b, s) ∷ os) body false (o ∷ ts2) ≡ scan ((b', o.site) ∷ (b, s) ∷ os) body false ts2 = rw k refl in
    rw parts (passes (b, s) os body (o ∷ ts2) m ∙ open_it ∙ broken_is b' o.site ((b, s) ∷ os) body h)

body_is_no_parentheses : (b : Pair) (after : Bool) → opens_body b after ≡ true → is_parentheses b ≡ false
body_is_no_parentheses Parentheses after h = absurd cc
body_is_no_parentheses Brackets after h = refl
body_is_no_parentheses Braces after h = refl

-- a bracket opens outside all others
opened : (after : Bool) (o : Token) (b : Pair) (ts : List Token) → role o ≡ Opens b → scan [] false after (o ∷ ts) ≡ scan ((b, o.site) ∷ []) (opens_body b after) false ts
opened after o b ts k = rw k refl

-- the scan gives what the definition says
pub goes_on_is : {after : Bool} {ts : List Token} {r : Outcome} → GoesOn after ts r → scan [] false after ts ≡ r
goes_on_is (at_file_end parts g) = rw (parts, g) refl
goes_on_is (at_semicolon k parts g) = rw (parts, g, k) refl
goes_on_is {after = after} (at_body {o = o} c {b = b} {ts1 = ts1} {ts2 = ts2} k body m kc parts g) =
    let open_it : scan [] false after (o ∷ ts1 ++ c ∷ ts2) ≡ scan ((b, o.site) ∷ []) true false (ts1 ++ c ∷ ts2) = opened after o b (ts1 ++ c ∷ ts2) k ∙ ap (λ z. scan ((b, o.site) ∷ []) z false (ts1 ++ c ∷ ts2)) body in
    let close_it : scan ((b, o.site) ∷ []) true false (c ∷ ts2) ≡ ends ts2 = rw (kc, same_self b) refl in
    rw (parts, g) (open_it ∙ passes (b, o.site) [] true (c ∷ ts2) m ∙ close_it)
goes_on_is {after = after} (after_group {o = o} c {b = b} {ts1 = ts1} {ts2 = ts2} k body m kc n parts) =
    let open_it : scan [] false after (o ∷ ts1 ++ c ∷ ts2) ≡ scan ((b, o.site) ∷ []) false false (ts1 ++ c ∷ ts2) = opened after o b (ts1 ++ c ∷ ts2) k ∙ ap (λ z. scan ((b, o.site) ∷ []) z false (ts1 ++ c ∷ ts2)) body in
    let close_it : scan ((b, o.site) ∷ []) false false (c ∷ ts2) ≡ scan [] false (is_parentheses b) ts2 = rw (kc, same_self b) refl in
    rw parts (open_it ∙ passes (b, o.site) [] false (c ∷ ts2) m ∙ close_it ∙ goes_on_is n)
goes_on_is {after = after} (after_other {t = t} {ts1 = ts1} k m parts) =
    rw parts (other_turn (role t) t.site [] false after ts1 (λ a b c. scan a b c ts1) k ∙ goes_on_is m)
goes_on_is (at_close k parts g) = rw (parts, g, k) refl
goes_on_is {after = after} (at_broken {o = o} {b = b} {ts1 = ts1} {place = place} k h parts g) =
    let open_it : scan [] false after (o ∷ ts1) ≡ scan ((b, o.site) ∷ []) (opens_body b after) false ts1 = rw k refl in
    rw (parts, g) (open_it ∙ broken_is b o.site [] (opens_body b after) h)

-- ---- each list of tokens goes on in some way

-- after an opening bracket: the bracket that closes it, or where it is broken
record Closes_at (b : Pair) (ts : List Token) : Type 0 where
  pub inside : List Token
  pub last : Token
  pub behind : List Token
  pub balanced : Balanced inside
  pub closes : role last ≡ Closes b
  pub parts : ts ≡ inside ++ last ∷ behind

abbrev Ways : Pair → Site → List Token → Type 0
Ways b s ts = Closes_at b ts ⊎ ((place : Site) × Broken b s ts place)

same_or_not : (b b' : Pair) → (b' ≡ b) ⊎ (b' ≢ b)
same_or_not Parentheses Parentheses = inl refl
same_or_not Brackets Brackets = inl refl
same_or_not Braces Braces = inl refl
same_or_not Parentheses Brackets = inr (λ e. absurd cc)
same_or_not Parentheses Braces = inr (λ e. absurd cc)
same_or_not Brackets Parentheses = inr (λ e. absurd cc)
same_or_not Brackets Braces = inr (λ e. absurd cc)
same_or_not Braces Parentheses = inr (λ e. absurd cc)
same_or_not Braces Brackets = inr (λ e. absurd cc)

-- one plain token more at the front
plain_more : (b : Pair) (s : Site) (t : Token) (ts : List Token) → is_plain (role t) ≡ true → Ways b s ts → Ways b s (t ∷ ts)
plain_more b s t ts h (inl w) = inl (record { inside = t ∷ w.inside; last = w.last; behind = w.behind; balanced = a_plain h w.balanced refl; closes = w.closes; parts = ap (λ z. t ∷ z) w.parts })
plain_more b s t ts h (inr w) = inr (w.0, broken_more w.1)
  where
    broken_more : {place : Site} → Broken b s ts place → Broken b s (t ∷ ts) place
    broken_more (file_ends m g) = file_ends (a_plain h m refl) g
    broken_more (no_match {ts1 = ts1} c ts2 m k ne parts g) = no_match {ts1 = t ∷ ts1} c ts2 (a_plain h m refl) k ne (ap (λ z. t ∷ z) parts) g
    broken_more (broken_inside {ts1 = ts1} o m k d parts) = broken_inside {ts1 = t ∷ ts1} o (a_plain h m refl) k d (ap (λ z. t ∷ z) parts)

-- brackets that match more at the front
group_more : (b b' : Pair) (s : Site) (o c : Token) (us ts : List Token) → role o ≡ Opens b' → Balanced us → role c ≡ Closes b' → Ways b s ts → Ways b s (o ∷ us ++ c ∷ ts)
group_more b b' s o c us ts k m kc (inl w) =
    inl (record {
      inside = o ∷ us ++ c ∷ w.inside;
      last = w.last;
      behind = w.behind;
      balanced = a_group c k m kc w.balanced refl;
      closes = w.closes;
      parts = group_parts o c us w.inside ts (w.last ∷ w.behind) w.parts;
    })
  where
    group_parts : (o c : Token) (us a ts rest : List Token) → ts ≡ a ++ rest → o ∷ us ++ c ∷ ts ≡ (o ∷ us ++ c ∷ a) ++ rest
    group_parts o c us a ts rest h = ap (λ z. o ∷ us ++ c ∷ z) h ∙ ap (λ z. o ∷ z) (sym (append_assoc us (c ∷ a) rest))
group_more b b' s o c us ts k m kc (inr w) = inr (w.0, broken_more w.1)
  where
    group_parts : (o c : Token) (us a ts rest : List Token) → ts ≡ a ++ rest → o ∷ us ++ c ∷ ts ≡ (o ∷ us ++ c ∷ a) ++ rest
    group_parts o c us a ts rest h = ap (λ z. o ∷ us ++ c ∷ z) h ∙ ap (λ z. o ∷ z) (sym (append_assoc us (c ∷ a) rest))

    broken_more : {place : Site} → Broken b s ts place → Broken b s (o ∷ us ++ c ∷ ts) place
    broken_more (file_ends n g) = file_ends (a_group c k m kc n refl) g
    broken_more (no_match {ts1 = ts1} d ts2 n kd ne parts g) = no_match {ts1 = o ∷ us ++ c ∷ ts1} d ts2 (a_group c k m kc n refl) kd ne (group_parts o c us ts1 ts (d ∷ ts2) parts) g
    broken_more (broken_inside {ts1 = ts1} {ts2 = ts2} p n kp d parts) = broken_inside {ts1 = o ∷ us ++ c ∷ ts1} p (a_group c k m kc n refl) kp d (group_parts o c us ts1 ts (p ∷ ts2) parts)

after_fits : (n : ℕ) (us : List Token) (c : Token) (vs ts : List Token) → ts ≡ us ++ c ∷ vs → length ts ≤ n → length vs ≤ n
after_fits n us c vs ts h le =
    let e : length ts ≡ length (us ++ c ∷ vs) = ap length h in
    omega (arith, length-append us (c ∷ vs))

abbrev Below : ℕ → Type 0
Below n = (b : Pair) (s : Site) (ts : List Token) → length ts ≤ n → Ways b s ts

way_by : (n : ℕ) (b : Pair) (s : Site) (t : Token) (ts : List Token) → length ts ≤ n → Below n → (r : Role) → role t ≡ r → Ways b s (t ∷ ts)
way_by n b s t ts fits below (Opens b') k = behind (below b' t.site ts fits)
  where
    behind : Ways b' t.site ts → Ways b s (t ∷ ts)
    behind (inl w) =
        subst (λ z. Ways b s (t ∷ z)) (sym w.parts)
        (group_more b b' s t w.last w.inside w.behind k w.balanced w.closes (below b s w.behind (after_fits n w.inside w.last w.behind ts w.parts fits)))
    behind (inr w) = inr (w.0, broken_inside t (no_token refl) k w.1 refl)
way_by n b s t ts fits below (Closes b') k = decide (same_or_not b b')
  where
    decide : (b' ≡ b) ⊎ (b' ≢ b) → Ways b s (t ∷ ts)
    decide (inl e) = inl (record { inside = []; last = t; behind = ts; balanced = no_token refl; closes = k ∙ ap (λ z. Closes z) e; parts = refl })
    decide (inr ne) = inr (t.site, no_match t ts (no_token refl) k ne refl refl)
way_by n b s t ts fits below Semicolon k = plain_more b s t ts (ap is_plain k) (below b s ts fits)
way_by n b s t ts fits below Directive k = plain_more b s t ts (ap is_plain k) (below b s ts fits)
way_by n b s t ts fits below Other k = plain_more b s t ts (ap is_plain k) (below b s ts fits)

ways : (n : ℕ) → Below n
ways n b s [] le = inr (s, file_ends (no_token refl) refl)
ways zero b s (t ∷ ts) le = absurd (omega arith)
ways (suc n) b s (t ∷ ts) le = way_by n b s t ts (omega arith) (λ b1 s1 ts1 h. ways n b1 s1 ts1 h) (role t) refl

abbrev Goes : Bool → List Token → Type 0
Goes after ts = (r : Outcome) × GoesOn after ts r

go_by : (n : ℕ) (after : Bool) (t : Token) (ts : List Token) → length ts ≤ n → ((after : Bool) (ts : List Token) → length ts ≤ n → Goes after ts) →
    (r : Role) → role t ≡ r → Goes after (t ∷ ts)
go_by n after t ts fits next (Opens b) k = behind (ways n b t.site ts fits)
  where
    body : (w : Closes_at b ts) (x : Bool) → opens_body b after ≡ x → Goes after (t ∷ ts)
    body w true h = (ends w.behind, at_body w.last k h w.balanced w.closes (ap (λ z. t ∷ z) w.parts) refl)
    body w false h =
        let remaining = next (is_parentheses b) w.behind (after_fits n w.inside w.last w.behind ts w.parts fits) in
        (remaining.0, after_group w.last k h w.balanced w.closes remaining.1 (ap (λ z. t ∷ z) w.parts))

    behind : Ways b t.site ts → Goes after (t ∷ ts)
    behind (inr w) = (stops w.0, at_broken k w.1 refl refl)
    behind (inl w) = body w (opens_body b after) refl
go_by n after t ts fits next (Closes b) k = (stops t.site, at_close k refl refl)
go_by n after t ts fits next Semicolon k = (ends ts, at_semicolon k refl refl)
go_by n after t ts fits next Directive k = let remaining = next false ts fits in (remaining.0, after_other (ap goes_on k) remaining.1 refl)
go_by n after t ts fits next Other k = let remaining = next false ts fits in (remaining.0, after_other (ap goes_on k) remaining.1 refl)

-- every list of tokens goes on in some way
goes : (n : ℕ) (after : Bool) (ts : List Token) → length ts ≤ n → Goes after ts
goes n after [] le = (runs_out, at_file_end refl refl)
goes zero after (t ∷ ts) le = absurd (omega arith)
goes (suc n) after (t ∷ ts) le = go_by n after t ts (omega arith) (λ a us h. goes n a us h) (role t) refl

-- what the scan gives is what the definition says
pub scan_is : (ts : List Token) (r : Outcome) → scan [] false false ts ≡ r → GoesOn false ts r
scan_is ts r h =
    let g = goes (length ts) false ts (omega arith) in
    subst (λ z. GoesOn false ts z) (sym (goes_on_is g.1) ∙ h) g.1

-- ---- items

not_directive : (r : Role) → is_directive r ≡ false → r ≢ Directive
not_directive r h e = absurd (let z = ap is_directive e in cc)

directive_is : (r : Role) → is_directive r ≡ true → r ≡ Directive
directive_is Directive h = refl
directive_is (Opens b) h = absurd cc
directive_is (Closes b) h = absurd cc
directive_is Semicolon h = absurd cc
directive_is Other h = absurd cc

pub directive_first : (t : Token) (ts : List Token) → is_directive (role t) ≡ true → IsFirstItem (t ∷ ts) 1
directive_first t ts h = (omega arith, omega arith, λ at remaining c. a_directive (directive_is (role t) h) c refl refl)

pub item_first : (t : Token) (ts : List Token) (n : ℕ) → is_directive (role t) ≡ false → 0 < n → n ≤ length (t ∷ ts) → scan [] false false (t ∷ ts) ≡ ends (drop n (t ∷ ts)) → IsFirstItem (t ∷ ts) n
item_first t ts n h pos le e =
    let count : length (t ∷ ts) - length (drop n (t ∷ ts)) ≡ n = omega (arith, length-drop n (t ∷ ts)) in (
      pos,
      le,
      λ at remaining c.
          an_item t ts {ts2 = drop n (t ∷ ts)} {remaining = remaining} refl (not_directive (role t) h) (scan_is (t ∷ ts) (ends (drop n (t ∷ ts))) e)
          (rw count c) (rw count refl),
    )

pub item_stops : (t : Token) (ts : List Token) (place : Site) → is_directive (role t) ≡ false → scan [] false false (t ∷ ts) ≡ stops place → (at : ℕ) → Cuts at (t ∷ ts) (Err place)
item_stops t ts place h e at = stopped t ts refl (not_directive (role t) h) (scan_is (t ∷ ts) (stops place) e) refl

pub item_runs_out : (t : Token) (ts : List Token) → is_directive (role t) ≡ false → scan [] false false (t ∷ ts) ≡ runs_out → (at : ℕ) → Cuts at (t ∷ ts) (Err t.site)
item_runs_out t ts h e at = left_over t ts refl (not_directive (role t) h) (scan_is (t ∷ ts) runs_out e) refl

-- ---- tokens are cut in one way

pub shorter : {after : Bool} {ts : List Token} {r : Outcome} (ts2 : List Token) → GoesOn after ts r → r ≡ ends ts2 → length ts2 < length ts
shorter ts2 (at_file_end parts g) e = absurd (let z = sym g ∙ e in cc)
shorter ts2 (at_semicolon {ts1 = ts1} k parts g) e = let same : ts1 ≡ ts2 = cc in omega (arith, ap length parts, ap length same)
shorter ts2 (at_body {o = o} c {ts1 = ts1} {ts2 = us} k body m kc parts g) e =
    let same : us ≡ ts2 = cc in
    omega (arith, ap length parts, ap length same, length-append ts1 (c ∷ us))
shorter ts2 (after_group {o = o} c {ts1 = ts1} {ts2 = us} k body m kc n parts) e =
    let less : length ts2 < length us = shorter ts2 n e in
    omega (arith, ap length parts, length-append ts1 (c ∷ us))
shorter ts2 (after_other {ts1 = ts1} k m parts) e = let less : length ts2 < length ts1 = shorter ts2 m e in omega (arith, ap length parts)
shorter ts2 (at_close k parts g) e = absurd (let z = sym g ∙ e in cc)
shorter ts2 (at_broken k h parts g) e = absurd (let z = sym g ∙ e in cc)

-- the cutting as a function of the tokens, n of them at most
abbrev outcome_items : ℕ → List Token → Site → (ℕ → List Token → Result (List Span) Site) → Outcome → Result (List Span) Site
outcome_items at ts s cut (ends ts2) = with_spans (span at (at + (length ts - length ts2)) ∷ []) (cut (at + (length ts - length ts2)) ts2)
outcome_items at ts s cut (stops place) = Err place
outcome_items at ts s cut runs_out = Err s

abbrev cut_at : ℕ → ℕ → List Token → Result (List Span) Site
cut_at n at [] = Ok []
cut_at zero at (t ∷ ts) = Ok []
cut_at (suc n) at (t ∷ ts) =
    cond (is_directive (role t)) (with_spans (span at (at + 1) ∷ []) (cut_at n (at + 1) ts)) (outcome_items at (t ∷ ts) t.site (λ a us. cut_at n a us) (scan [] false false (t ∷ ts)))

plain_first : (r : Role) → r ≢ Directive → is_directive r ≡ false
plain_first Directive d = absurd (d refl)
plain_first (Opens b) d = refl
plain_first (Closes b) d = refl
plain_first Semicolon d = refl
plain_first Other d = refl

not_cut : (n at : ℕ) (t : Token) (ts : List Token) → is_directive (role t) ≡ false →
    cut_at (suc n) at (t ∷ ts) ≡ outcome_items at (t ∷ ts) t.site (λ a us. cut_at n a us) (scan [] false false (t ∷ ts))
not_cut n at t ts h = rw h refl

cut_is : (n at : ℕ) (ts : List Token) (r : Result (List Span) Site) → length ts ≤ n → Cuts at ts r → cut_at n at ts ≡ r
cut_is zero at ts r le (nothing_left parts g) = rw (parts, g) refl
cut_is (suc n) at ts r le (nothing_left parts g) = rw (parts, g) refl
cut_is zero at ts r le (a_directive k c parts g) = absurd (let e = ap length parts in omega arith)
cut_is zero at ts r le (an_item t ts1 parts d h c g) = absurd (let e = ap length parts in omega arith)
cut_is zero at ts r le (stopped t ts1 parts d h g) = absurd (let e = ap length parts in omega arith)
cut_is zero at ts r le (left_over t ts1 parts d h g) = absurd (let e = ap length parts in omega arith)
cut_is (suc n) at ts r le (a_directive {t = t} {ts1 = ts1} {remaining = remaining} k c parts g) =
    let rest : cut_at n (at + 1) ts1 ≡ remaining = cut_is n (at + 1) ts1 remaining (omega (arith, ap length parts)) c in
    rw (parts, g, k, rest) refl
cut_is (suc n) at ts r le (an_item t ts1 {ts2 = ts2} {remaining = remaining} parts d h c g) =
    let fits : length ts2 ≤ n = omega (arith, shorter ts2 h refl) in
    let rest : cut_at n (at + (length ts - length ts2)) ts2 ≡ remaining = cut_is n (at + (length ts - length ts2)) ts2 remaining fits c in
    let scanned : scan [] false false (t ∷ ts1) ≡ ends ts2 = ap (scan [] false false) (sym parts) ∙ goes_on_is h in
    let same : cut_at (suc n) at (t ∷ ts1) ≡ with_spans (span at (at + (length (t ∷ ts1) - length ts2)) ∷ []) (cut_at n (at + (length (t ∷ ts1) - length ts2)) ts2) =
    not_cut n at t ts1 (plain_first (role t) d) ∙ ap (outcome_items at (t ∷ ts1) t.site (λ a us. cut_at n a us)) scanned in
    ap (cut_at (suc n) at) parts ∙ same ∙ ap (λ z. with_spans (span at (at + (length z - length ts2)) ∷ []) (cut_at n (at + (length z - length ts2)) ts2)) (sym parts)
    ∙ ap (with_spans (span at (at + (length ts - length ts2)) ∷ [])) rest ∙ sym g
cut_is (suc n) at ts r le (stopped t ts1 {place = place} parts d h g) =
    let scanned : scan [] false false (t ∷ ts1) ≡ stops place = ap (scan [] false false) (sym parts) ∙ goes_on_is h in
    ap (cut_at (suc n) at) parts ∙ not_cut n at t ts1 (plain_first (role t) d) ∙ ap (outcome_items at (t ∷ ts1) t.site (λ a us. cut_at n a us)) scanned ∙ sym g
cut_is (suc n) at ts r le (left_over t ts1 parts d h g) =
    let scanned : scan [] false false (t ∷ ts1) ≡ runs_out = ap (scan [] false false) (sym parts) ∙ goes_on_is h in
    ap (cut_at (suc n) at) parts ∙ not_cut n at t ts1 (plain_first (role t) d) ∙ ap (outcome_items at (t ∷ ts1) t.site (λ a us. cut_at n a us)) scanned ∙ sym g

pub one_cutting : (at : ℕ) (ts : List Token) (a b : Result (List Span) Site) → Cuts at ts a → Cuts at ts b → a ≡ b
one_cutting at ts a b g h = sym (cut_is (length ts) at ts a (omega arith) g) ∙ cut_is (length ts) at ts b (omega arith) h

-- ---- all tokens are cut in some way

abbrev Cut_somehow : ℕ → List Token → Type 0
Cut_somehow at ts = (r : Result (List Span) Site) × Cuts at ts r

cut_by : (at : ℕ) (t : Token) (ts : List Token) → is_directive (role t) ≡ false → ((at : ℕ) (us : List Token) → length us ≤ length ts → Cut_somehow at us) →
    (r : Outcome) → GoesOn false (t ∷ ts) r → Cut_somehow at (t ∷ ts)
cut_by at t ts d next (ends us) g =
    let remaining = next (at + (length (t ∷ ts) - length us)) us (omega (arith, shorter us g refl)) in
    (with_spans (span at (at + (length (t ∷ ts) - length us)) ∷ []) remaining.0, an_item t ts refl (not_directive (role t) d) g remaining.1 refl)
cut_by at t ts d next (stops place) g = (Err place, stopped t ts refl (not_directive (role t) d) g refl)
cut_by at t ts d next runs_out g = (Err t.site, left_over t ts refl (not_directive (role t) d) g refl)

cut_one : (at : ℕ) (t : Token) (ts : List Token) → ((at : ℕ) (us : List Token) → length us ≤ length ts → Cut_somehow at us) → (b : Bool) → is_directive (role t) ≡ b → Cut_somehow at (t ∷ ts)
cut_one at t ts next true h = let remaining = next (at + 1) ts (omega arith) in (with_spans (span at (at + 1) ∷ []) remaining.0, a_directive (directive_is (role t) h) remaining.1 refl refl)
cut_one at t ts next false h = let g = goes (length (t ∷ ts)) false (t ∷ ts) (omega arith) in cut_by at t ts h next g.0 g.1

cut_somehow : (n at : ℕ) (ts : List Token) → length ts ≤ n → Cut_somehow at ts
cut_somehow n at [] le = (Ok [], nothing_left refl refl)
cut_somehow zero at (t ∷ ts) le = absurd (omega arith)
cut_somehow (suc n) at (t ∷ ts) le = cut_one at t ts (λ a us fits. cut_somehow n a us (omega arith)) (is_directive (role t)) refl

pub some_cutting : (at : ℕ) (ts : List Token) → Cut_somehow at ts
some_cutting at ts = cut_somehow (length ts) at ts (omega arith)

with_none : (r : Result (List Span) Site) → with_spans [] r ≡ r
with_none (Ok remaining) = refl
with_none (Err place) = refl

with_more : (xs : List Span) (x : Span) (r : Result (List Span) Site) → with_spans (xs ++ x ∷ []) r ≡ with_spans xs (with_spans (x ∷ []) r)
with_more xs x (Ok remaining) = ap (λ z. Ok z) (append_assoc xs (x ∷ []) remaining)
with_more xs x (Err place) = refl

pub begun : (ts : List Token) (remaining : Result (List Span) Site) → Cuts 0 ts remaining → Cuts 0 ts (with_spans [] remaining)
begun ts remaining c = subst (λ z. Cuts 0 ts z) (sym (with_none remaining)) c

-- one item more
pub item_more : (ts : List Token) (xs : List Span) (first n : ℕ) → IsFirstItem (drop first ts) n →
    ((remaining : Result (List Span) Site) → Cuts first (drop first ts) remaining → Cuts 0 ts (with_spans xs remaining)) →
    (remaining : Result (List Span) Site) → Cuts (first + n) (drop (first + n) ts) remaining → Cuts 0 ts (with_spans (xs ++ span first (first + n) ∷ []) remaining)
item_more ts xs first n f so_far remaining c =
    let same : drop (first + n) ts ≡ drop n (drop first ts) = sym (drop-drop n first ts) in
    subst (λ z. Cuts 0 ts z) (sym (with_more xs (span first (first + n)) remaining)) (so_far _ (f.2 first remaining (subst (λ z. Cuts (first + n) z remaining) same c)))

pub all_cut : (ts : List Token) (xs : List Span) (first : ℕ) → length ts ≤ first →
    ((remaining : Result (List Span) Site) → Cuts first (drop first ts) remaining → Cuts 0 ts (with_spans xs remaining)) → Cuts 0 ts (Ok xs)
all_cut ts xs first le so_far =
    let none : drop first ts ≡ [] = drop_of_length-le ts le in
    subst (λ z. Cuts 0 ts (Ok z)) (append-nil xs) (so_far (Ok []) (nothing_left none refl))

-- ---- the same, by the token at the place 0

module _ (ts : List Token) (d : Token) (r : Role) (b : Bool) (pos : 0 < length ts) (is : r ≡ role_of (get_or ts 0 d).kind) (test : b ≡ is_directive r) where
  pub at_directive : b ≡ true → IsFirstItem ts 1
  at_directive h = go ts is pos
    where
      go : (ts : List Token) → r ≡ role_of (get_or ts 0 d).kind → 0 < length ts → IsFirstItem ts 1
      go [] e p = absurd (omega arith)
      go (t ∷ us) e p = directive_first t us (ap is_directive (sym e) ∙ sym test ∙ h)

  pub at_item : b ≡ false → (c : Cut) (n : ℕ) → (scan [] false false ts ≡ cut_outcome ts c) × FitsIn ts c → c ≡ C.Ends n → IsFirstItem ts n
  at_item h c n f k = go ts is pos (subst (λ z. (scan [] false false ts ≡ cut_outcome ts z) × FitsIn ts z) k f)
    where
      go : (ts : List Token) → r ≡ role_of (get_or ts 0 d).kind → 0 < length ts → (scan [] false false ts ≡ ends (drop n ts)) × ((0 < n) × (n ≤ length ts)) → IsFirstItem ts n
      go [] e p f = absurd (omega arith)
      go (t ∷ us) e p f = item_first t us n (ap is_directive (sym e) ∙ sym test ∙ h) f.1.0 f.1.1 f.0

  pub at_stop : b ≡ false → (c : Cut) (place : Site) → (scan [] false false ts ≡ cut_outcome ts c) × FitsIn ts c → c ≡ C.Stops place → (at : ℕ) → Cuts at ts (Err place)
  at_stop h c place f k = go ts is pos (subst (λ z. scan [] false false ts ≡ cut_outcome ts z) k f.0)
    where
      go : (ts : List Token) → r ≡ role_of (get_or ts 0 d).kind → 0 < length ts → scan [] false false ts ≡ stops place → (at : ℕ) → Cuts at ts (Err place)
      go [] e p f at = absurd (omega arith)
      go (t ∷ us) e p f at = item_stops t us place (ap is_directive (sym e) ∙ sym test ∙ h) f at

  pub at_end_of_file : b ≡ false → (c : Cut) → (scan [] false false ts ≡ cut_outcome ts c) × FitsIn ts c → c ≡ C.RunsOut → (at : ℕ) → Cuts at ts (Err (get_or ts 0 d).site)
  at_end_of_file h c f k = go ts is pos (subst (λ z. scan [] false false ts ≡ cut_outcome ts z) k f.0)
    where
      go : (ts : List Token) → r ≡ role_of (get_or ts 0 d).kind → 0 < length ts → scan [] false false ts ≡ runs_out → (at : ℕ) → Cuts at ts (Err (get_or ts 0 d).site)
      go [] e p f at = absurd (omega arith)
      go (t ∷ us) e p f at = item_runs_out t us (ap is_directive (sym e) ∙ sym test ∙ h) f at

site_is : (a b : Site) → Unbalanced a ≡ Unbalanced b → a ≡ b
site_is a b e = cc

-- the place of a fault
pub fault_site : {T : Type 0} (r : Result T ItemFault) (a b : Site) → r ≡ Err (Unbalanced a) → r ≡ Err (Unbalanced b) → a ≡ b
fault_site r a b h g = site_is a b cc
