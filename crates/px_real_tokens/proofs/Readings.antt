-- Each file is read in one way.
use Rattle.std.proofs.Common.{◌≡◌, ◌≢◌, ◌⊎◌, ℕ, zero, suc, ◌+◌, ◌<◌, ◌≤◌, Bool, true, List, [], ◌∷◌, ◌++◌, length, take, drop, Option, Some, None, Result, Ok, Err, refl, sym, ap, subst, ◌∙◌, length-append, arith, inl, inr, append_assoc, ap₂}
use Rattle.std.proofs.lemmas.List.{take_at, drop_at}
use Rattle.std.specs.Prelude.{All, ◌-◌}
use Rattle.std.specs.List.{slice_range}
use Rattle.std.proofs.lemmas.List.Elements.{All-cons, All-nil}
use Rattle.px_base.specs.declared.trace.Site.{Site}
use Rattle.px_lexer.specs.Spelling.{comment, open_comment, blanks}
use Rattle.px_lexer.specs.Tokens.{site_of}
use Rattle.px_real_tokens.specs.declared.token.Token.{Token}
use Rattle.px_real_tokens.specs.declared.token.TokenKind.{TokenKind}
use Rattle.px_real_tokens.specs.declared.token.LexFault.{LexFault}
use Rattle.px_real_tokens.specs.declared.token.LexFault.TheVariants as F
use Rattle.px_real_tokens.specs.declared.piece.Piece.{Piece}
use Rattle.px_real_tokens.specs.declared.piece.Piece.TheVariants as P
use Rattle.px_real_tokens.specs.Spelling.{word, IsNumber, number, dotted, IsQuoted, quoted, IsLiteral, bare, prefixed, IsHash, hash, hash_digraph, hash_hash, hash_hash_digraph, IsHashLine, after_hash, after_digraph, line_comment, Spells, a_word, a_number, a_string, a_character, a_punctuator, a_hash, a_marker, a_directive, some_blanks, a_line_comment, a_closed_comment, an_open_comment, a_join}
use Rattle.px_real_tokens.specs.Tokens.{Longest, NoPiece, StandsIn, tokens_of, fault_of, fresh_after, with_front, Reads, at_end, a_piece, a_fault, no_piece, Lexes}
use Rattle.px_real_tokens.specs.Scanning.{piece_at}
use Rattle.px_real_tokens.proofs.PunctuatorLemmas.{punctuator_some}
use Rattle.px_real_tokens.proofs.Exact.{taken, is_longest, longest_is, nothing_is}

abbrev Reading : Type 0
Reading = Result (List Token) LexFault

-- ---- the next piece

-- what follows a piece that is found
pub a_step : (file : ℕ) (before rest : List ℕ) (fresh : Bool) (p : Piece) (n : ℕ) → piece_at fresh rest ≡ Some (p, n) → fault_of p (site_of file before) ≡ None → (r : Reading) →
    Reads file (before ++ take n rest) (fresh_after fresh p (take n rest)) (drop n rest) r →
    Reads file before fresh rest (with_front (tokens_of p (site_of file before) (length before) (length before + n)) r)
a_step file before rest fresh p n h no_fault r remaining =
    let t = taken fresh rest (p, n) h in
    let front : take n rest ≡ t.front = ap (take n) t.parts ∙ take_at t.front t.rest n t.count in
    let back : drop n rest ≡ t.rest = ap (drop n) t.parts ∙ drop_at t.front t.rest n t.count in
    let moved : Reads file (before ++ t.front) (fresh_after fresh p t.front) t.rest r =
    subst (λ z. Reads file (before ++ t.front) (fresh_after fresh p t.front) z r) back
    (subst (λ z. Reads file (before ++ z) (fresh_after fresh p z) (drop n rest) r) front remaining) in
    a_piece p t.front t.rest r (is_longest fresh rest p n h t) no_fault moved
    (ap (λ z. with_front (tokens_of p (site_of file before) (length before) (length before + z)) r) (sym t.count))

pub a_fault_step : (file : ℕ) (before rest : List ℕ) (fresh : Bool) (p : Piece) (n : ℕ) (fault : LexFault) → piece_at fresh rest ≡ Some (p, n) → fault_of p (site_of file before) ≡ Some fault → Reads file before fresh rest (Err fault)
a_fault_step file before rest fresh p n fault h e =
    let t = taken fresh rest (p, n) h in
    a_fault p t.front t.rest fault (is_longest fresh rest p n h t) e refl

pub no_step : (file : ℕ) (before rest : List ℕ) (fresh : Bool) → piece_at fresh rest ≡ None → rest ≢ [] → Reads file before fresh rest (Err (F.Byte (site_of file before)))
no_step file before rest fresh h some = no_piece some (nothing_is fresh rest h) refl

-- ---- a reading of each file

quoted_some : (q : ℕ) (f : List ℕ) → IsQuoted q f → 0 < length f
quoted_some q f (quoted body h parts) = rw parts (omega arith)

literal_some : (q : ℕ) (f : List ℕ) → IsLiteral q f → 0 < length f
literal_some q f (bare h) = quoted_some q f h
literal_some q f (prefixed {g = g} prefix e h parts) = omega (arith, quoted_some q g h, ap length parts, length-append prefix g)

number_some : (f : List ℕ) → IsNumber f → 0 < length f
number_some f (number h k parts) = rw parts (omega arith)
number_some f (dotted h k parts) = rw parts (omega arith)

hash_some : (k : TokenKind) (f : List ℕ) → IsHash k f → 0 < length f
hash_some k f (hash e parts) = rw parts (omega arith)
hash_some k f (hash_digraph e parts) = rw parts (omega arith)
hash_some k f (hash_hash e parts) = rw parts (omega arith)
hash_some k f (hash_hash_digraph e parts) = rw parts (omega arith)

line_some : (bs f : List ℕ) → IsHashLine bs f → 0 < length f
line_some bs f (after_hash parts) = rw parts (omega arith)
line_some bs f (after_digraph parts) = rw parts (omega arith)

-- a piece has at least one byte
spells_some : (fresh : Bool) (p : Piece) (f : List ℕ) → Spells fresh p f → 0 < length f
spells_some fresh p f (a_word g (word h k parts)) = rw parts (omega arith)
spells_some fresh p f (a_number g h) = number_some f h
spells_some fresh p f (a_string g h) = literal_some 34 f h
spells_some fresh p f (a_character g h) = literal_some 39 f h
spells_some fresh p f (a_punctuator c g h) = punctuator_some c f h
spells_some fresh p f (a_hash k g e h) = hash_some k f h
spells_some fresh p f (a_marker bs g e k m h) = line_some bs f h
spells_some fresh p f (a_directive bs g e k m h) = line_some bs f h
spells_some fresh p f (some_blanks g (blanks h k parts)) = rw parts (omega arith)
spells_some fresh p f (a_line_comment g (line_comment h parts)) = rw parts (omega arith)
spells_some fresh p f (a_closed_comment g (comment body h parts)) = rw parts (omega arith)
spells_some fresh p f (an_open_comment g (open_comment h parts)) = rw parts (omega arith)
spells_some fresh p f (a_join g parts) = rw parts (omega arith)

shorter : (fresh : Bool) (p : Piece) (n : ℕ) (bytes : List ℕ) → piece_at fresh bytes ≡ Some (p, n) → length (drop n bytes) < length bytes
shorter fresh p n bytes h =
    let t = taken fresh bytes (p, n) h in
    let back : drop n bytes ≡ t.rest = ap (drop n) t.parts ∙ drop_at t.front t.rest n t.count in
    omega (arith, spells_some fresh p t.front t.spells, ap length back, ap length t.parts, length-append t.front t.rest)

record Answer (file : ℕ) (before : List ℕ) (fresh : Bool) (bytes : List ℕ) : Type 0 where
  pub reading : Reading
  pub reads : Reads file before fresh bytes reading

answer : (n file : ℕ) (before : List ℕ) (fresh : Bool) (bytes : List ℕ) → length bytes ≤ n → Answer file before fresh bytes
answer n file before fresh [] le = record { reading = Ok []; reads = at_end refl refl }
answer zero file before fresh (b ∷ bs) le = absurd (omega arith)
answer (suc n) file before fresh (b ∷ bs) le = by_piece (λ before2 fresh2 bytes2 le2. answer n file before2 fresh2 bytes2 le2) (piece_at fresh (b ∷ bs)) refl
  where
    by_fault : (p : Piece) (m : ℕ) → piece_at fresh (b ∷ bs) ≡ Some (p, m) →
        ((before2 : List ℕ) (fresh2 : Bool) (bytes2 : List ℕ) → length bytes2 ≤ n → Answer file before2 fresh2 bytes2) →
        (o : Option LexFault) → fault_of p (site_of file before) ≡ o → Answer file before fresh (b ∷ bs)
    by_fault p m h remaining (Some fault) e = record { reading = Err fault; reads = a_fault_step file before (b ∷ bs) fresh p m fault h e }
    by_fault p m h remaining None e =
        let s = shorter fresh p m (b ∷ bs) h in
        let l = remaining (before ++ take m (b ∷ bs)) (fresh_after fresh p (take m (b ∷ bs))) (drop m (b ∷ bs)) (omega arith) in
        record { reading = with_front (tokens_of p (site_of file before) (length before) (length before + m)) l.reading; reads = a_step file before (b ∷ bs) fresh p m h e l.reading l.reads }

    by_piece : ((before2 : List ℕ) (fresh2 : Bool) (bytes2 : List ℕ) → length bytes2 ≤ n → Answer file before2 fresh2 bytes2) →
        (o : Option (Piece × ℕ)) → piece_at fresh (b ∷ bs) ≡ o → Answer file before fresh (b ∷ bs)
    by_piece remaining None h = record { reading = Err (F.Byte (site_of file before)); reads = no_step file before (b ∷ bs) fresh h (λ e. absurd cc) }
    by_piece remaining (Some x) h = by_fault x.0 x.1 h remaining (fault_of x.0 (site_of file before)) refl

-- no reading is for want of memory
fault_is_none : (p : Piece) (site : Site) (fault : LexFault) → fault_of p site ≡ Some fault → fault ≢ F.NoMemory
fault_is_none (P.Token k) site fault h e = absurd cc
fault_is_none P.Space site fault h e = absurd cc
fault_is_none P.Join site fault h e = absurd cc
fault_is_none P.Directive site fault h e = absurd cc
fault_is_none P.OpenComment site fault h e = absurd cc

with_front_err : (front : List Token) (r : Reading) (fault : LexFault) → Err fault ≡ with_front front r → r ≡ Err fault
with_front_err front (Ok ts) fault e = absurd cc
with_front_err front (Err f) fault e = sym e

no_memory_needed : {file : ℕ} {before : List ℕ} {fresh : Bool} {bytes : List ℕ} {r : Reading} (fault : LexFault) → Reads file before fresh bytes r → r ≡ Err fault → fault ≢ F.NoMemory
no_memory_needed fault (at_end h g) e i = absurd cc
no_memory_needed fault (a_piece p front rest remaining l n m g) e i = no_memory_needed fault m (with_front_err _ remaining fault (sym e ∙ g)) i
no_memory_needed fault (a_fault p front rest f l n g) e i = let k : f ≡ fault = cc in fault_is_none p _ f n (k ∙ i)
no_memory_needed fault (no_piece h k g) e i = absurd cc

-- ---- and no other

record Same (p q : Piece) (front f rest r : List ℕ) : Type 0 where
  pub piece : p ≡ q
  pub fronts : front ≡ f
  pub rests : rest ≡ r

longest_same : (fresh : Bool) (bytes : List ℕ) (p q : Piece) (front f rest r : List ℕ) → Longest fresh bytes p front rest → Longest fresh bytes q f r → Same p q front f rest r
longest_same fresh bytes p q front f rest r l m =
    let x : Piece × ℕ = (p, length front) in
    let y : Piece × ℕ = (q, length f) in
    let e : Some x ≡ Some y = sym (longest_is fresh bytes p front rest l) ∙ longest_is fresh bytes q f r m in
    let g : x ≡ y = cc in
    let n : length front ≡ length f = ap (λ (z : Piece × ℕ). z.1) g in
    record {
      piece = ap (λ (z : Piece × ℕ). z.0) g;
      fronts = sym (take_at front rest (length f) n) ∙ ap (take (length f)) (sym l.parts ∙ m.parts) ∙ take_at f r (length f) refl;
      rests = sym (drop_at front rest (length f) n) ∙ ap (drop (length f)) (sym l.parts ∙ m.parts) ∙ drop_at f r (length f) refl;
    }

longest_some : (fresh : Bool) (bytes : List ℕ) (p : Piece) (front rest : List ℕ) → Longest fresh bytes p front rest → bytes ≢ []
longest_some fresh bytes p front rest l e = absurd (omega (arith, spells_some fresh p front l.spells, ap length l.parts, ap length e, length-append front rest))

no_longest : (fresh : Bool) (bytes : List ℕ) (p : Piece) (front rest : List ℕ) → Longest fresh bytes p front rest → ¬ NoPiece fresh bytes
no_longest fresh bytes p front rest l k = k p front rest l.spells l.parts

empty_reads : {file : ℕ} {before : List ℕ} {fresh : Bool} {bytes : List ℕ} {r : Reading} → bytes ≡ [] → Reads file before fresh bytes r → r ≡ Ok []
empty_reads e (at_end h g) = g
empty_reads e (a_piece p front rest remaining l n m g) = absurd (longest_some _ _ p front rest l e)
empty_reads e (a_fault p front rest f l n g) = absurd (longest_some _ _ p front rest l e)
empty_reads e (no_piece h k g) = absurd (h e)

none_reads : {file : ℕ} {before : List ℕ} {fresh : Bool} {bytes : List ℕ} {r : Reading} → bytes ≢ [] → NoPiece fresh bytes → Reads file before fresh bytes r → r ≡ Err (F.Byte (site_of file before))
none_reads some none (at_end h g) = absurd (some h)
none_reads some none (a_piece p front rest remaining l n m g) = absurd (no_longest _ _ p front rest l none)
none_reads some none (a_fault p front rest f l n g) = absurd (no_longest _ _ p front rest l none)
none_reads some none (no_piece h k g) = g

fault_differs : (p q : Piece) (site : Site) (fault : LexFault) → p ≡ q → fault_of p site ≡ None → fault_of q site ≡ Some fault → ⊥
fault_differs p q site fault e h k = let z : None ≡ Some fault = sym h ∙ ap (λ z. fault_of z site) e ∙ k in absurd cc

fault_reads : {file : ℕ} {before : List ℕ} {fresh : Bool} {bytes : List ℕ} {r : Reading} (p : Piece) (front rest : List ℕ) (fault : LexFault) →
    Longest fresh bytes p front rest → fault_of p (site_of file before) ≡ Some fault → Reads file before fresh bytes r → r ≡ Err fault
fault_reads p front rest fault l k (at_end h g) = absurd (longest_some _ _ p front rest l h)
fault_reads p front rest fault l k (a_piece q f r remaining m n i g) = absurd (fault_differs q p _ fault (longest_same _ _ q p f front r rest m l).piece n k)
fault_reads {file = file} {before = before} p front rest fault l k (a_fault q f r other m n g) =
    let e : Some other ≡ Some fault = sym n ∙ ap (λ z. fault_of z (site_of file before)) (longest_same _ _ q p f front r rest m l).piece ∙ k in
    let i : other ≡ fault = cc in
    g ∙ ap (λ z. Err z) i
fault_reads p front rest fault l k (no_piece h i g) = absurd (no_longest _ _ p front rest l i)

-- what is read after a piece
record AfterPiece (file : ℕ) (before : List ℕ) (fresh : Bool) (p : Piece) (front rest : List ℕ) (r : Reading) : Type 0 where
  pub remaining : Reading
  pub reads : Reads file (before ++ front) (fresh_after fresh p front) rest remaining
  pub is : r ≡ with_front (tokens_of p (site_of file before) (length before) (length before + length front)) remaining

piece_reads : {file : ℕ} {before : List ℕ} {fresh : Bool} {bytes : List ℕ} {r : Reading} (p : Piece) (front rest : List ℕ) →
    Longest fresh bytes p front rest → fault_of p (site_of file before) ≡ None → Reads file before fresh bytes r → AfterPiece file before fresh p front rest r
piece_reads p front rest l k (at_end h g) = absurd (longest_some _ _ p front rest l h)
piece_reads {file = file} {before = before} {fresh = fresh} {r = x} p front rest l k (a_piece q f r remaining m n i g) =
    let s = longest_same _ _ q p f front r rest m l in
    let moved : AfterPiece file before fresh q f r x = record { remaining = remaining; reads = i; is = g } in
    subst (λ z. AfterPiece file before fresh z front rest x) s.piece (subst (λ z. AfterPiece file before fresh q z rest x) s.fronts (subst (λ z. AfterPiece file before fresh q f z x) s.rests moved))
piece_reads p front rest l k (a_fault q f r other m n g) = absurd (fault_differs p q _ other (longest_same _ _ p q front f rest r l m).piece k n)
piece_reads p front rest l k (no_piece h i g) = absurd (no_longest _ _ p front rest l i)

same_reading : {file : ℕ} {before : List ℕ} {fresh : Bool} {bytes : List ℕ} {a b : Reading} → Reads file before fresh bytes a → Reads file before fresh bytes b → a ≡ b
same_reading (at_end h g) m = g ∙ sym (empty_reads h m)
same_reading (a_piece p front rest remaining l n i g) m =
    let w = piece_reads p front rest l n m in
    g ∙ ap (with_front _) (same_reading i w.reads) ∙ sym w.is
same_reading (a_fault p front rest fault l n g) m = g ∙ sym (fault_reads p front rest fault l n m)
same_reading (no_piece h k g) m = g ∙ sym (none_reads h k m)

pub one_reading : (file : ℕ) (source : List ℕ) (a b : Reading) → Lexes file source a → Lexes file source b → a ≡ b
one_reading file source a b l m = same_reading l m

pub some_reading : (file : ℕ) (source : List ℕ) → ((tokens : List Token) × Lexes file source (Ok tokens)) ⊎ ((fault : LexFault) × Lexes file source (Err fault) × (fault ≢ F.NoMemory))
some_reading file source = go a.reading refl a.reads
  where
    a : Answer file [] true source
    a = answer (length source) file [] true source (omega arith)

    go : (r : Reading) → a.reading ≡ r → Lexes file source r → ((tokens : List Token) × Lexes file source (Ok tokens)) ⊎ ((fault : LexFault) × Lexes file source (Err fault) × (fault ≢ F.NoMemory))
    go (Ok tokens) e l = inl (tokens, l)
    go (Err fault) e l = inr (fault, l, no_memory_needed fault l refl)

-- ---- where the tokens stand

-- the token of a piece
stands_in : (file : ℕ) (before bytes front rest : List ℕ) (fresh : Bool) (k : TokenKind) → Longest fresh bytes (P.Token k) front rest →
    StandsIn file (before ++ bytes) (record { kind = k; site = site_of file before; start = length before; end = length before + length front })
stands_in file before bytes front rest fresh k l =
    let size : length before + length front - length before ≡ length front = omega arith in
    let back : drop (length before) (before ++ bytes) ≡ bytes = drop_at before bytes (length before) refl in
    let text : slice_range (before ++ bytes) (length before) (length before + length front) ≡ front =
    ap₂ take size (back ∙ l.parts) ∙ take_at front rest (length front) refl in
    record {
      some = omega (arith, spells_some fresh (P.Token k) front l.spells);
      within = omega (arith, length-append before bytes, ap length l.parts, length-append front rest);
      fresh = fresh;
      spelled = subst (λ z. Spells fresh (P.Token k) z) (sym text) l.spells;
      placed = ap (site_of file) (sym (take_at before bytes (length before) refl));
    }

all_stand : {file : ℕ} {before : List ℕ} {fresh : Bool} {bytes : List ℕ} {r : Reading} (source : List ℕ) (tokens : List Token) →
    source ≡ before ++ bytes → Reads file before fresh bytes r → r ≡ Ok tokens → All (StandsIn file source) tokens
all_stand {file = file} source tokens e (at_end h g) k =
    let none : [] ≡ tokens = (let z = sym g ∙ k in cc) in
    subst (λ z. All (StandsIn file source) z) none (All-nil (StandsIn file source))
all_stand {file = file} {before = before} {fresh = fresh} {bytes = bytes} source tokens e (a_piece p front rest remaining l n m g) k = go p l n remaining (λ ts. all_stand source ts there m) (sym g ∙ k)
  where
    there : source ≡ (before ++ front) ++ rest
    there = e ∙ ap (λ z. before ++ z) l.parts ∙ sym (append_assoc before front rest)

    go : (p : Piece) → Longest fresh bytes p front rest → fault_of p (site_of file before) ≡ None → (remaining : Reading) → ((ts : List Token) → remaining ≡ Ok ts → All (StandsIn file source) ts) →
        with_front (tokens_of p (site_of file before) (length before) (length before + length front)) remaining ≡ Ok tokens → All (StandsIn file source) tokens
    go p l n (Err fault) below i = absurd cc
    go (P.Token kind) l n (Ok ts) below i =
        let t : Token = record { kind = kind; site = site_of file before; start = length before; end = length before + length front } in
        let same : t ∷ ts ≡ tokens = cc in
        let here : StandsIn file source t = subst (λ z. StandsIn file z t) (sym e) (stands_in file before bytes front rest fresh kind l) in
        subst (λ z. All (StandsIn file source) z) same (All-cons (StandsIn file source) t ts here (below ts refl))
    go P.Space l n (Ok ts) below i = let same : ts ≡ tokens = cc in subst (λ z. All (StandsIn file source) z) same (below ts refl)
    go P.Join l n (Ok ts) below i = let same : ts ≡ tokens = cc in subst (λ z. All (StandsIn file source) z) same (below ts refl)
    go P.Directive l n (Ok ts) below i = absurd cc
    go P.OpenComment l n (Ok ts) below i = absurd cc
all_stand source tokens e (a_fault p front rest fault l n g) k = absurd (let z = sym g ∙ k in cc)
all_stand source tokens e (no_piece h i g) k = absurd (let z = sym g ∙ k in cc)

pub tokens_stand : (file : ℕ) (source : List ℕ) (tokens : List Token) → Lexes file source (Ok tokens) → All (StandsIn file source) tokens
tokens_stand file source tokens l = all_stand source tokens refl l refl
