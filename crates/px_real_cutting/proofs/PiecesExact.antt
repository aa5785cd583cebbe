-- Cutting as it is done, token by token, and that its pieces are those of the definition.
use Rattle.std.proofs.Common.{◌+◌, ◌-◌, ◌==◌, drop, length-drop, get_or, map, ◌≡◌, ◌≢◌, ◌⊎◌, ℕ, zero, suc, ◌≤◌, ◌<◌, Bool, true, false, ◌||◌, ◌&&◌, List, [], ◌∷◌, ◌++◌, length, Option, Some, None, Result, Ok, Err, refl, sym, ap, subst, ◌∙◌, append_assoc, length-append, arith, inl, inr}
use Rattle.std.proofs.lemmas.List.{append-nil, drop-map, length-map, nil_from_length}
use Rattle.std.proofs.lemmas.Bool.{eqb-true}
use Rattle.px_base.specs.declared.trace.Site.{Site}
use Rattle.px_real_tokens.specs.declared.token.Token.{Token}
use Rattle.px_real_cutting.specs.declared.fault.ItemFault.{ItemFault}
use Rattle.px_real_cutting.specs.declared.fault.ItemFault.TheVariants.{Unbalanced}
use Rattle.px_real_cutting.specs.declared.roles.Pair.{Pair}
use Rattle.px_real_cutting.specs.declared.roles.Pair.TheVariants.{Parentheses, Brackets, Braces}
use Rattle.px_real_cutting.specs.declared.roles.Role.{Role}
use Rattle.px_real_cutting.specs.declared.roles.Role.TheVariants as R
use Rattle.px_real_cutting.specs.declared.roles.Mark.{Mark}
use Rattle.px_real_cutting.specs.declared.roles.Before.{Before}
use Rattle.px_real_cutting.specs.declared.roles.Before.TheVariants.{Nothing}
use Rattle.px_real_cutting.specs.declared.roles.Ending.{Ending}
use Rattle.px_real_cutting.specs.declared.pieces.Piece.{Piece}
use Rattle.px_real_cutting.specs.declared.scanner.Cut.{Cut}
use Rattle.px_real_cutting.specs.declared.scanner.Cut.TheVariants as C
use Rattle.px_real_cutting.specs.Roles.{as_mark, is_plain, goes_on, opens, before_group, before_token, is_parameters, is_name}
use Rattle.px_real_cutting.specs.Pieces.{Balanced, no_token, a_plain, a_group, Broken, file_ends, no_match, broken_inside, Outcome, ends, stops, runs_out, GoesOn, at_file_end, at_semicolon, at_body, after_group, after_other, at_close, at_broken, with_pieces, piece, Cuts, nothing_left, a_piece, stopped, left_over}
use Rattle.px_real_cutting.specs.First.{IsFirstPiece}
use Rattle.px_real_cutting.specs.Scan.{cut_outcome, FitsIn, Bracket, Next, same_pair, closed_last, turn, scan}

same_self : (b : Pair) → same_pair b b ≡ true
same_self Parentheses = refl
same_self Brackets = refl
same_self Braces = refl

not_same : (b b' : Pair) → b' ≢ b → same_pair b b' ≡ false
not_same Parentheses Parentheses h = absurd (h refl)
not_same Brackets Brackets h = absurd (h refl)
not_same Braces Braces h = absurd (h refl)
not_same Parentheses Brackets h = refl
not_same Parentheses Braces h = refl
not_same Brackets Parentheses h = refl
not_same Brackets Braces h = refl
not_same Braces Parentheses h = refl
not_same Braces Brackets h = refl

-- inside brackets, a token that is no bracket changes nothing
plain_turn : (r : Role) (s : Site) (o : Bracket) (os : List Bracket) (before : Before) (head : Bool) (ts : List Mark) (next : Next) →
    is_plain r ≡ true → turn r s (o ∷ os) before head ts next ≡ next (o ∷ os) before head
plain_turn (R.Opens b) s o os before head ts next h = absurd cc
plain_turn (R.Closes b) s o os before head ts next h = absurd cc
plain_turn R.Semicolon s o os before head ts next h = refl
plain_turn R.Name s o os before head ts next h = refl
plain_turn R.Other s o os before head ts next h = refl

-- outside of them, a token that is neither a bracket nor a semicolon
other_turn : (r : Role) (s : Site) (before : Before) (head : Bool) (ts : List Mark) (next : Next) →
    goes_on r ≡ true → turn r s [] before head ts next ≡ next [] (before_token r) (head || (is_parameters before && is_name r))
other_turn (R.Opens b) s before head ts next h = absurd cc
other_turn (R.Closes b) s before head ts next h = absurd cc
other_turn R.Semicolon s before head ts next h = absurd cc
other_turn R.Name s before head ts next h = refl
other_turn R.Other s before head ts next h = refl

-- tokens whose brackets match are passed over inside brackets
pub passes : {ts : List Mark} (o : Bracket) (os : List Bracket) (before : Before) (head : Bool) (rest : List Mark) → Balanced ts → scan (o ∷ os) before head (ts ++ rest) ≡ scan (o ∷ os) before head rest
passes o os before head rest (no_token h) = rw h refl
passes o os before head rest (a_plain {t = t} {ts1 = ts1} h m parts) =
    rw parts (plain_turn t.role t.site o os before head (ts1 ++ rest) (λ a b c. scan a b c (ts1 ++ rest)) h ∙ passes o os before head rest m)
passes o os before head rest (a_group {o = p} c {b = b} {ts1 = ts1} {ts2 = ts2} k m kc n parts) =
    let one : scan ((b, p.site) ∷ o ∷ os) before head (ts1 ++ (c ∷ ts2 ++ rest)) ≡ scan ((b, p.site) ∷ o ∷ os) before head (c ∷ ts2 ++ rest) = passes (b, p.site) (o ∷ os) before head (c ∷ ts2 ++ rest) m in
    let two : scan ((b, p.site) ∷ o ∷ os) before head (c ∷ ts2 ++ rest) ≡ scan (o ∷ os) before head (ts2 ++ rest) = rw (kc, same_self b) refl in
    rw (parts, append_assoc ts1 (c ∷ ts2) rest, k) (one ∙ two ∙ passes o os before head rest n)

-- what is broken inside brackets stops the scan there
pub broken_is : {ts : List Mark} {place : Site} (b : Pair) (s : Site) (os : List Bracket) (before : Before) (head : Bool) → Broken b s ts place → scan ((b, s) ∷ os) before head ts ≡ stops place
broken_is b s os before head (file_ends {ts = ts} m g) =
    rw (← append-nil ts, g) (passes (b, s) os before head [] m)
broken_is b s os before head (no_match {b' = b'} {ts1 = ts1} c ts2 m k ne parts g) =
    let last : scan ((b, s) ∷ os) before head (c ∷ ts2) ≡ stops c.site = rw (k, not_same b b' ne) refl in
    rw (parts, g) (passes (b, s) os before head (c ∷ ts2) m ∙ last)
broken_is b s os before head (broken_inside {b' = b'} {place = place} {ts1 = ts1} {ts2 = ts2} o m k h parts) =
    let open_it : scan ((b, s) ∷ os) before head (o ∷ ts2) ≡ scan ((b', o.site) ∷ (b, s) ∷ os) before head ts2 = rw k refl in
    rw parts (passes (b, s) os before head (o ∷ ts2) m ∙ open_it ∙ broken_is b' o.site ((b, s) ∷ os) before head h)

-- the bracket that closes the last one open
closes_last : (b : Pair) (s : Site) (c : Mark) (before : Before) (head : Bool) (ts : List Mark) (e : Option Ending) → c.role ≡ R.Closes b → opens b before ≡ e →
    scan ((b, s) ∷ []) before head (c ∷ ts) ≡ closed_last e b before head ts (λ os1 before1 head1. scan os1 before1 head1 ts)
closes_last b s c before head ts e k h = rw (k, same_self b, h) refl

-- the scan gives what the definition says
pub goes_on_is : {before : Before} {head : Bool} {ts : List Mark} {r : Outcome} → GoesOn before head ts r → scan [] before head ts ≡ r
goes_on_is (at_file_end parts g) = rw (parts, g) refl
goes_on_is (at_semicolon k parts g) = rw (parts, g, k) refl
goes_on_is {before = before} {head = head} (at_body {o = o} c {b = b} {e = e} {ts1 = ts1} {ts2 = ts2} k body m kc parts g) =
    let open_it : scan [] before head (o ∷ ts1 ++ c ∷ ts2) ≡ scan ((b, o.site) ∷ []) before head (ts1 ++ c ∷ ts2) = rw k refl in
    rw (parts, g) (open_it ∙ passes (b, o.site) [] before head (c ∷ ts2) m ∙ closes_last b o.site c before head ts2 (Some e) kc body)
goes_on_is {before = before} {head = head} (after_group {o = o} c {b = b} {ts1 = ts1} {ts2 = ts2} k body m kc n parts) =
    let open_it : scan [] before head (o ∷ ts1 ++ c ∷ ts2) ≡ scan ((b, o.site) ∷ []) before head (ts1 ++ c ∷ ts2) = rw k refl in
    rw parts (open_it ∙ passes (b, o.site) [] before head (c ∷ ts2) m ∙ closes_last b o.site c before head ts2 None kc body ∙ goes_on_is n)
goes_on_is {before = before} {head = head} (after_other {t = t} {ts1 = ts1} k m parts) =
    rw parts (other_turn t.role t.site before head ts1 (λ a b c. scan a b c ts1) k ∙ goes_on_is m)
goes_on_is (at_close k parts g) = rw (parts, g, k) refl
goes_on_is {before = before} {head = head} (at_broken {o = o} {b = b} {ts1 = ts1} {place = place} k h parts g) =
    let open_it : scan [] before head (o ∷ ts1) ≡ scan ((b, o.site) ∷ []) before head ts1 = rw k refl in
    rw (parts, g) (open_it ∙ broken_is b o.site [] before head h)

-- ---- each list of tokens goes on in some way

-- after an opening bracket: the bracket that closes it, or where it is broken
record Closes_at (b : Pair) (ts : List Mark) : Type 0 where
  pub inside : List Mark
  pub last : Mark
  pub behind : List Mark
  pub balanced : Balanced inside
  pub closes : last.role ≡ R.Closes b
  pub parts : ts ≡ inside ++ last ∷ behind

abbrev Ways : Pair → Site → List Mark → Type 0
Ways b s ts = Closes_at b ts ⊎ ((place : Site) × Broken b s ts place)

same_or_not : (b b' : Pair) → (b' ≡ b) ⊎ (b' ≢ b)
same_or_not Parentheses Parentheses = inl refl
same_or_not Brackets Brackets = inl refl
same_or_not Braces Braces = inl refl
same_or_not Parentheses Brackets = inr (λ e. absurd cc)
same_or_not Parentheses Braces = inr (λ e. absurd cc)
same_or_not Brackets Parentheses = inr (λ e. absurd cc)
same_or_not Brackets Braces = inr (λ e. absurd cc)
same_or_not Braces Parentheses = inr (λ e. absurd cc)
same_or_not Braces Brackets = inr (λ e. absurd cc)

-- one plain token more at the front
plain_more : (b : Pair) (s : Site) (t : Mark) (ts : List Mark) → is_plain t.role ≡ true → Ways b s ts → Ways b s (t ∷ ts)
plain_more b s t ts h (inl w) = inl (record { inside = t ∷ w.inside; last = w.last; behind = w.behind; balanced = a_plain h w.balanced refl; closes = w.closes; parts = ap (λ z. t ∷ z) w.parts })
plain_more b s t ts h (inr w) = inr (w.0, broken_more w.1)
  where
    broken_more : {place : Site} → Broken b s ts place → Broken b s (t ∷ ts) place
    broken_more (file_ends m g) = file_ends (a_plain h m refl) g
    broken_more (no_match {ts1 = ts1} c ts2 m k ne parts g) = no_match {ts1 = t ∷ ts1} c ts2 (a_plain h m refl) k ne (ap (λ z. t ∷ z) parts) g
    broken_more (broken_inside {ts1 = ts1} o m k d parts) = broken_inside {ts1 = t ∷ ts1} o (a_plain h m refl) k d (ap (λ z. t ∷ z) parts)

group_parts : (o c : Mark) (us a ts rest : List Mark) → ts ≡ a ++ rest → o ∷ us ++ c ∷ ts ≡ (o ∷ us ++ c ∷ a) ++ rest
group_parts o c us a ts rest h = ap (λ z. o ∷ us ++ c ∷ z) h ∙ ap (λ z. o ∷ z) (sym (append_assoc us (c ∷ a) rest))

-- brackets that match more at the front
group_more : (b b' : Pair) (s : Site) (o c : Mark) (us ts : List Mark) → o.role ≡ R.Opens b' → Balanced us → c.role ≡ R.Closes b' → Ways b s ts → Ways b s (o ∷ us ++ c ∷ ts)
group_more b b' s o c us ts k m kc (inl w) =
    inl (record {
      inside = o ∷ us ++ c ∷ w.inside;
      last = w.last;
      behind = w.behind;
      balanced = a_group c k m kc w.balanced refl;
      closes = w.closes;
      parts = group_parts o c us w.inside ts (w.last ∷ w.behind) w.parts;
    })
group_more b b' s o c us ts k m kc (inr w) = inr (w.0, broken_more w.1)
  where
    broken_more : {place : Site} → Broken b s ts place → Broken b s (o ∷ us ++ c ∷ ts) place
    broken_more (file_ends n g) = file_ends (a_group c k m kc n refl) g
    broken_more (no_match {ts1 = ts1} d ts2 n kd ne parts g) = no_match {ts1 = o ∷ us ++ c ∷ ts1} d ts2 (a_group c k m kc n refl) kd ne (group_parts o c us ts1 ts (d ∷ ts2) parts) g
    broken_more (broken_inside {ts1 = ts1} {ts2 = ts2} p n kp d parts) = broken_inside {ts1 = o ∷ us ++ c ∷ ts1} p (a_group c k m kc n refl) kp d (group_parts o c us ts1 ts (p ∷ ts2) parts)

after_fits : (n : ℕ) (us : List Mark) (c : Mark) (vs ts : List Mark) → ts ≡ us ++ c ∷ vs → length ts ≤ n → length vs ≤ n
after_fits n us c vs ts h le =
    let e : length ts ≡ length (us ++ c ∷ vs) = ap length h in
    omega (arith, length-append us (c ∷ vs))

abbrev Below : ℕ → Type 0
Below n = (b : Pair) (s : Site) (ts : List Mark) → length ts ≤ n → Ways b s ts

way_by : (n : ℕ) (b : Pair) (s : Site) (t : Mark) (ts : List Mark) → length ts ≤ n → Below n → (r : Role) → t.role ≡ r → Ways b s (t ∷ ts)
way_by n b s t ts fits below (R.Opens b') k = behind (below b' t.site ts fits)
  where
    behind : Ways b' t.site ts → Ways b s (t ∷ ts)
    behind (inl w) =
        subst (λ z. Ways b s (t ∷ z)) (sym w.parts)
        (group_more b b' s t w.last w.inside w.behind k w.balanced w.closes (below b s w.behind (after_fits n w.inside w.last w.behind ts w.parts fits)))
    behind (inr w) = inr (w.0, broken_inside t (no_token refl) k w.1 refl)
way_by n b s t ts fits below (R.Closes b') k = decide (same_or_not b b')
  where
    decide : (b' ≡ b) ⊎ (b' ≢ b) → Ways b s (t ∷ ts)
    decide (inl e) = inl (record { inside = []; last = t; behind = ts; balanced = no_token refl; closes = k ∙ ap (λ z. R.Closes z) e; parts = refl })
    decide (inr ne) = inr (t.site, no_match t ts (no_token refl) k ne refl refl)
way_by n b s t ts fits below R.Semicolon k = plain_more b s t ts (ap is_plain k) (below b s ts fits)
way_by n b s t ts fits below R.Name k = plain_more b s t ts (ap is_plain k) (below b s ts fits)
way_by n b s t ts fits below R.Other k = plain_more b s t ts (ap is_plain k) (below b s ts fits)

ways : (n : ℕ) → Below n
ways n b s [] le = inr (s, file_ends (no_token refl) refl)
ways zero b s (t ∷ ts) le = absurd (omega arith)
ways (suc n) b s (t ∷ ts) le = way_by n b s t ts (omega arith) (λ b1 s1 ts1 h. ways n b1 s1 ts1 h) t.role refl

abbrev Goes : Before → Bool → List Mark → Type 0
Goes before head ts = (r : Outcome) × GoesOn before head ts r

go_by : (n : ℕ) (before : Before) (head : Bool) (t : Mark) (ts : List Mark) → length ts ≤ n → ((before : Before) (head : Bool) (ts : List Mark) → length ts ≤ n → Goes before head ts) →
    (r : Role) → t.role ≡ r → Goes before head (t ∷ ts)
go_by n before head t ts fits next (R.Opens b) k = behind (ways n b t.site ts fits)
  where
    body : (w : Closes_at b ts) (x : Option Ending) → opens b before ≡ x → Goes before head (t ∷ ts)
    body w (Some e) h = (ends e w.behind, at_body w.last k h w.balanced w.closes (ap (λ z. t ∷ z) w.parts) refl)
    body w None h =
        let remaining = next (before_group b before) head w.behind (after_fits n w.inside w.last w.behind ts w.parts fits) in
        (remaining.0, after_group w.last k h w.balanced w.closes remaining.1 (ap (λ z. t ∷ z) w.parts))

    behind : Ways b t.site ts → Goes before head (t ∷ ts)
    behind (inr w) = (stops w.0, at_broken k w.1 refl refl)
    behind (inl w) = body w (opens b before) refl
go_by n before head t ts fits next (R.Closes b) k = (stops t.site, at_close k refl refl)
go_by n before head t ts fits next R.Semicolon k = (ends _ ts, at_semicolon k refl refl)
go_by n before head t ts fits next R.Name k =
    let remaining = next (before_token t.role) (head || (is_parameters before && is_name t.role)) ts fits in
    (remaining.0, after_other (ap goes_on k) remaining.1 refl)
go_by n before head t ts fits next R.Other k =
    let remaining = next (before_token t.role) (head || (is_parameters before && is_name t.role)) ts fits in
    (remaining.0, after_other (ap goes_on k) remaining.1 refl)

-- every list of tokens goes on in some way
goes : (n : ℕ) (before : Before) (head : Bool) (ts : List Mark) → length ts ≤ n → Goes before head ts
goes n before head [] le = (runs_out, at_file_end refl refl)
goes zero before head (t ∷ ts) le = absurd (omega arith)
goes (suc n) before head (t ∷ ts) le = go_by n before head t ts (omega arith) (λ a b us h. goes n a b us h) t.role refl

-- what the scan gives is what the definition says
pub scan_is : (ts : List Mark) (r : Outcome) → scan [] Nothing false ts ≡ r → GoesOn Nothing false ts r
scan_is ts r h =
    let g = goes (length ts) Nothing false ts (omega arith) in
    subst (λ z. GoesOn Nothing false ts z) (sym (goes_on_is g.1) ∙ h) g.1

-- ---- pieces

pub piece_first : (ts : List Mark) (e : Ending) (n : ℕ) → 0 < n → n ≤ length ts → scan [] Nothing false ts ≡ ends e (drop n ts) → IsFirstPiece ts e n
piece_first [] e n pos le h = absurd (omega arith)
piece_first (t ∷ ts) e n pos le h =
    let count : length (t ∷ ts) - length (drop n (t ∷ ts)) ≡ n = omega (arith, length-drop n (t ∷ ts)) in (
      pos,
      le,
      λ at remaining c.
          a_piece t ts e {ts2 = drop n (t ∷ ts)} {remaining = remaining} refl (scan_is (t ∷ ts) (ends e (drop n (t ∷ ts))) h)
          (rw count c) (rw count refl),
    )

pub piece_stops : (ts : List Mark) (place : Site) → 0 < length ts → scan [] Nothing false ts ≡ stops place → (at : ℕ) → Cuts at ts (Err place)
piece_stops [] place pos h at = absurd (omega arith)
piece_stops (t ∷ ts) place pos h at = stopped t ts refl (scan_is (t ∷ ts) (stops place) h) refl

pub piece_runs_out : (t : Mark) (ts : List Mark) → scan [] Nothing false (t ∷ ts) ≡ runs_out → (at : ℕ) → Cuts at (t ∷ ts) (Err t.site)
piece_runs_out t ts h at = left_over t ts refl (scan_is (t ∷ ts) runs_out h) refl

-- ---- tokens are cut into pieces in one way

pub shorter : {before : Before} {head : Bool} {ts : List Mark} {r : Outcome} (e : Ending) (ts2 : List Mark) → GoesOn before head ts r → r ≡ ends e ts2 → length ts2 < length ts
shorter e ts2 (at_file_end parts g) h = absurd (let z = sym g ∙ h in cc)
shorter e ts2 (at_semicolon {ts1 = ts1} k parts g) h = let same : ts1 ≡ ts2 = cc in omega (arith, ap length parts, ap length same)
shorter e ts2 (at_body {o = o} c {ts1 = ts1} {ts2 = us} k body m kc parts g) h =
    let same : us ≡ ts2 = cc in
    omega (arith, ap length parts, ap length same, length-append ts1 (c ∷ us))
shorter e ts2 (after_group {o = o} c {ts1 = ts1} {ts2 = us} k body m kc n parts) h =
    let less : length ts2 < length us = shorter e ts2 n h in
    omega (arith, ap length parts, length-append ts1 (c ∷ us))
shorter e ts2 (after_other {ts1 = ts1} k m parts) h = let less : length ts2 < length ts1 = shorter e ts2 m h in omega (arith, ap length parts)
shorter e ts2 (at_close k parts g) h = absurd (let z = sym g ∙ h in cc)
shorter e ts2 (at_broken k b parts g) h = absurd (let z = sym g ∙ h in cc)

-- the cutting as a function of the tokens, n of them at most
abbrev outcome_pieces : ℕ → List Mark → Site → (ℕ → List Mark → Result (List Piece) Site) → Outcome → Result (List Piece) Site
outcome_pieces at ts s cut (ends e ts2) = with_pieces (piece e at (at + (length ts - length ts2)) ∷ []) (cut (at + (length ts - length ts2)) ts2)
outcome_pieces at ts s cut (stops place) = Err place
outcome_pieces at ts s cut runs_out = Err s

abbrev cut_at : ℕ → ℕ → List Mark → Result (List Piece) Site
cut_at n at [] = Ok []
cut_at zero at (t ∷ ts) = Ok []
cut_at (suc n) at (t ∷ ts) = outcome_pieces at (t ∷ ts) t.site (λ a us. cut_at n a us) (scan [] Nothing false (t ∷ ts))

-- by how the first piece goes on
first_cut : (n at : ℕ) (t : Mark) (ts ts1 : List Mark) (o : Outcome) → ts ≡ t ∷ ts1 → GoesOn Nothing false ts o → cut_at (suc n) at ts ≡ outcome_pieces at ts t.site (λ a us. cut_at n a us) o
first_cut n at t ts ts1 o parts h =
    let scanned : scan [] Nothing false (t ∷ ts1) ≡ o = ap (scan [] Nothing false) (sym parts) ∙ goes_on_is h in
    ap (cut_at (suc n) at) parts ∙ ap (outcome_pieces at (t ∷ ts1) t.site (λ a us. cut_at n a us)) scanned ∙ ap (λ z. outcome_pieces at z t.site (λ a us. cut_at n a us) o) (sym parts)

cut_is : (n at : ℕ) (ts : List Mark) (r : Result (List Piece) Site) → length ts ≤ n → Cuts at ts r → cut_at n at ts ≡ r
cut_is zero at ts r le (nothing_left parts g) = rw (parts, g) refl
cut_is (suc n) at ts r le (nothing_left parts g) = rw (parts, g) refl
cut_is zero at ts r le (a_piece t ts1 e parts h c g) = absurd (let z = ap length parts in omega arith)
cut_is zero at ts r le (stopped t ts1 parts h g) = absurd (let z = ap length parts in omega arith)
cut_is zero at ts r le (left_over t ts1 parts h g) = absurd (let z = ap length parts in omega arith)
cut_is (suc n) at ts r le (a_piece t ts1 e {ts2 = ts2} {remaining = remaining} parts h c g) =
    let fits : length ts2 ≤ n = omega (arith, shorter e ts2 h refl) in
    let rest : cut_at n (at + (length ts - length ts2)) ts2 ≡ remaining = cut_is n (at + (length ts - length ts2)) ts2 remaining fits c in
    first_cut n at t ts ts1 (ends e ts2) parts h ∙ ap (with_pieces (piece e at (at + (length ts - length ts2)) ∷ [])) rest ∙ sym g
cut_is (suc n) at ts r le (stopped t ts1 {place = place} parts h g) = first_cut n at t ts ts1 (stops place) parts h ∙ sym g
cut_is (suc n) at ts r le (left_over t ts1 parts h g) = first_cut n at t ts ts1 runs_out parts h ∙ sym g

pub one_list : (at : ℕ) (ts : List Mark) (a b : Result (List Piece) Site) → Cuts at ts a → Cuts at ts b → a ≡ b
one_list at ts a b g h = sym (cut_is (length ts) at ts a (omega arith) g) ∙ cut_is (length ts) at ts b (omega arith) h

-- ---- all tokens are cut into pieces in some way

abbrev Cut_somehow : ℕ → List Mark → Type 0
Cut_somehow at ts = (r : Result (List Piece) Site) × Cuts at ts r

cut_by : (at : ℕ) (t : Mark) (ts : List Mark) → ((at : ℕ) (us : List Mark) → length us ≤ length ts → Cut_somehow at us) →
    (r : Outcome) → GoesOn Nothing false (t ∷ ts) r → Cut_somehow at (t ∷ ts)
cut_by at t ts next (ends e us) g =
    let remaining = next (at + (length (t ∷ ts) - length us)) us (omega (arith, shorter e us g refl)) in
    (with_pieces (piece e at (at + (length (t ∷ ts) - length us)) ∷ []) remaining.0, a_piece t ts e refl g remaining.1 refl)
cut_by at t ts next (stops place) g = (Err place, stopped t ts refl g refl)
cut_by at t ts next runs_out g = (Err t.site, left_over t ts refl g refl)

cut_somehow : (n at : ℕ) (ts : List Mark) → length ts ≤ n → Cut_somehow at ts
cut_somehow n at [] le = (Ok [], nothing_left refl refl)
cut_somehow zero at (t ∷ ts) le = absurd (omega arith)
cut_somehow (suc n) at (t ∷ ts) le =
    let g = goes (length (t ∷ ts)) Nothing false (t ∷ ts) (omega arith) in
    cut_by at t ts (λ a us fits. cut_somehow n a us (omega arith)) g.0 g.1

pub some_list : (at : ℕ) (ts : List Mark) → Cut_somehow at ts
some_list at ts = cut_somehow (length ts) at ts (omega arith)

-- ---- the loop over the pieces

with_none : (r : Result (List Piece) Site) → with_pieces [] r ≡ r
with_none (Ok remaining) = refl
with_none (Err place) = refl

with_more : (xs : List Piece) (x : Piece) (r : Result (List Piece) Site) → with_pieces (xs ++ x ∷ []) r ≡ with_pieces xs (with_pieces (x ∷ []) r)
with_more xs x (Ok remaining) = ap (λ z. Ok z) (append_assoc xs (x ∷ []) remaining)
with_more xs x (Err place) = refl

pub begun : (ts : List Mark) (remaining : Result (List Piece) Site) → Cuts 0 ts remaining → Cuts 0 ts (with_pieces [] remaining)
begun ts remaining c = subst (λ z. Cuts 0 ts z) (sym (with_none remaining)) c

-- one piece more
pub piece_more : (source : List ℕ) (ts rest : List Token) (xs : List Piece) (e : Ending) (first n : ℕ) → IsFirstPiece (map (as_mark source) rest) e n →
    ((remaining : Result (List Piece) Site) → Cuts first (map (as_mark source) rest) remaining → Cuts 0 (map (as_mark source) ts) (with_pieces xs remaining)) →
    (remaining : Result (List Piece) Site) → Cuts (first + n) (map (as_mark source) (drop n rest)) remaining → Cuts 0 (map (as_mark source) ts) (with_pieces (xs ++ piece e first (first + n) ∷ []) remaining)
piece_more source ts rest xs e first n f so_far remaining c =
    subst (λ z. Cuts 0 (map (as_mark source) ts) z) (sym (with_more xs (piece e first (first + n)) remaining))
    (so_far _ (f.2 first remaining (subst (λ z. Cuts (first + n) z remaining) (sym (drop-map (as_mark source) n rest)) c)))

pub all_cut : (source : List ℕ) (ts rest : List Token) (xs : List Piece) (first : ℕ) → (length rest == 0) ≡ true →
    ((remaining : Result (List Piece) Site) → Cuts first (map (as_mark source) rest) remaining → Cuts 0 (map (as_mark source) ts) (with_pieces xs remaining)) → Cuts 0 (map (as_mark source) ts) (Ok xs)
all_cut source ts rest xs first h so_far =
    let none : rest ≡ [] = nil_from_length rest (eqb-true (length rest) 0 h) in
    subst (λ z. Cuts 0 (map (as_mark source) ts) (Ok z)) (append-nil xs) (so_far (Ok []) (nothing_left (ap (map (as_mark source)) none) refl))

-- ---- the first piece, by what the scan of it gives

abbrev Scanned : List ℕ → List Token → Cut → Type 0
Scanned source ts c = scan [] Nothing false (map (as_mark source) ts) ≡ cut_outcome source ts c

pub piece_found : (source : List ℕ) (ts : List Token) (c : Cut) (e : Ending) (n : ℕ) → Scanned source ts c × FitsIn ts c → c ≡ C.Ends e n → IsFirstPiece (map (as_mark source) ts) e n
piece_found source ts c e n f k =
    let g : (scan [] Nothing false (map (as_mark source) ts) ≡ ends e (map (as_mark source) (drop n ts))) × ((0 < n) × (n ≤ length ts)) = subst (λ z. Scanned source ts z × FitsIn ts z) k f in
    let le : n ≤ length ts = g.1.1 in
    piece_first (map (as_mark source) ts) e n g.1.0 (omega (arith, length-map ts (as_mark source))) (g.0 ∙ ap (λ z. ends e z) (sym (drop-map (as_mark source) n ts)))

pub fits_found : (ts : List Token) (c : Cut) (e : Ending) (n : ℕ) → FitsIn ts c → c ≡ C.Ends e n → (0 < n) × (n ≤ length ts)
fits_found ts c e n f k = subst (FitsIn ts) k f

pub stop_found : (source : List ℕ) (ts : List Token) (c : Cut) (place : Site) → 0 < length ts → Scanned source ts c → c ≡ C.Stops place → (at : ℕ) → Cuts at (map (as_mark source) ts) (Err place)
stop_found source ts c place pos f k =
    piece_stops (map (as_mark source) ts) place (omega (arith, length-map ts (as_mark source))) (subst (λ z. Scanned source ts z) k f)

pub end_found : (source : List ℕ) (ts : List Token) (c : Cut) (s : Site) → 0 < length ts → ((d : Token) → s ≡ (get_or ts 0 d).site) → Scanned source ts c → c ≡ C.RunsOut →
    (at : ℕ) → Cuts at (map (as_mark source) ts) (Err s)
end_found source [] c s pos h f k at = absurd (omega arith)
end_found source (t ∷ us) c s pos h f k at =
    subst (λ z. Cuts at (map (as_mark source) (t ∷ us)) (Err z)) (sym (h t)) (piece_runs_out (as_mark source t) (map (as_mark source) us) (subst (λ z. Scanned source (t ∷ us) z) k f) at)

site_is : (a b : Site) → Unbalanced a ≡ Unbalanced b → a ≡ b
site_is a b e = cc

-- the place of a fault
pub fault_site : {T : Type 0} (r : Result T ItemFault) (a b : Site) → r ≡ Err (Unbalanced a) → r ≡ Err (Unbalanced b) → a ≡ b
fault_site r a b h g = site_is a b cc
