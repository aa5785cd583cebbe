-- What was there stays there.
use Rattle.std.proofs.Common.{◌≡◌, ℕ, ◌-◌, Bool, List, [], ◌∷◌, ◌++◌, length, take, Option, Some, None, Result, Ok, Err, OnOk, OnErr, refl, ap, sym, subst, ◌∙◌, append_assoc, arith}
use Rattle.std.proofs.lemmas.List.{append-nil, length-append, drop_at, take_at}
use Rattle.px_real_scopes.specs.declared.declaring.Heights.{Heights}
use Rattle.px_real_scopes.specs.Scopes.{MeaningTree, TagTree, BindingTree, of_name, of_tag, DefinitionTree, Scopes}
use Rattle.px_real_scopes.specs.Entering.{with_tag}
use Rattle.px_real_scopes.specs.Behind.{with_name}
use Rattle.px_real_scopes.specs.Keys.{last_of}
use Rattle.px_real_scopes.specs.Steps.{Grows, AreHeights, cut_to}

pub stays : (st : Scopes) → Grows st st
stays st = record { bindings = ([], refl); records = ([], sym (append-nil st.records)); definitions = ([], refl); hidden = refl }

front_more : {A : Type 0} (a b c : List A) → (x : List A) × (b ≡ x ++ a) → (y : List A) × (c ≡ y ++ b) → (z : List A) × (c ≡ z ++ a)
front_more a b c h g = (g.0 ++ h.0, g.1 ∙ ap (λ z. g.0 ++ z) h.1 ∙ sym (append_assoc g.0 h.0 a))

back_more : {A : Type 0} (a b c : List A) → (x : List A) × (b ≡ a ++ x) → (y : List A) × (c ≡ b ++ y) → (z : List A) × (c ≡ a ++ z)
back_more a b c h g = (h.0 ++ g.0, g.1 ∙ ap (λ z. z ++ g.0) h.1 ∙ append_assoc a h.0 g.0)

pub grows_on : {a b c : Scopes} → Grows a b → Grows b c → Grows a c
grows_on {a} {b} {c} h g = record {
  bindings = front_more a.bindings b.bindings c.bindings h.bindings g.bindings;
  records = back_more a.records b.records c.records h.records g.records;
  definitions = front_more a.definitions b.definitions c.definitions h.definitions g.definitions;
  hidden = g.hidden ∙ h.hidden;
}

pub grown : (old next new : Scopes) → new ≡ next → Grows old next → Grows old new
grown old next new h g = subst (Grows old) (sym h) g

-- ---- one more

-- something, if it came
pub grown_or_not : {E : Type 0} (r : Result Unit E) (old next new : Scopes) → Grows old next → OnOk r (new ≡ next) → OnErr r (new ≡ old) → Grows old new
grown_or_not (Ok u) old next new g h f = grown old next new h g
grown_or_not (Err e) old next new g h f = grown old old new f (stays old)

pub one_bound : (st : Scopes) (b : BindingTree) → Grows st (record st { bindings = b ∷ st.bindings })
one_bound st b = record { bindings = (b ∷ [], refl); records = ([], sym (append-nil st.records)); definitions = ([], refl); hidden = refl }

pub one_declared : (st : Scopes) (b : Bool) → Grows st (record st { records = st.records ++ b ∷ [] })
one_declared st b = record { bindings = ([], refl); records = (b ∷ [], refl); definitions = ([], refl); hidden = refl }

pub one_defined : (st : Scopes) (d : DefinitionTree) → Grows st (record st { definitions = d ∷ st.definitions })
one_defined st d = record { bindings = ([], refl); records = ([], sym (append-nil st.records)); definitions = (d ∷ [], refl); hidden = refl }

pub named_grows : (o : Option (List ℕ)) (m : MeaningTree) (st : Scopes) → Grows st (with_name o m st)
named_grows (Some name) m st = one_bound st (of_name name m)
named_grows None m st = stays st

pub tag_grows : (o : Option (List ℕ)) (t : TagTree) (st : Scopes) → Grows st (record st { bindings = with_tag o t st.bindings })
tag_grows (Some tag) t st = one_bound st (of_tag tag t)
tag_grows None t st = stays st

-- ---- what came is cut away

last_kept : {A : Type 0} (x a : List A) (n : ℕ) → n ≡ length a → last_of n (x ++ a) ≡ a
last_kept x a n h = let l = length-append x a in drop_at x a (length (x ++ a) - n) (omega (arith, l, h))

pub cut_back : (h : Heights) (old new : Scopes) → AreHeights h old → Grows old new → cut_to h new ≡ old
cut_back h old new hs g = same (last_of h.bindings new.bindings) (take h.records new.records) (last_of h.definitions new.definitions) new.hidden
    (ap (last_of h.bindings) g.bindings.1 ∙ last_kept g.bindings.0 old.bindings h.bindings hs.bindings)
    (ap (take h.records) g.records.1 ∙ take_at old.records g.records.0 h.records (sym hs.records))
    (ap (last_of h.definitions) g.definitions.1 ∙ last_kept g.definitions.0 old.definitions h.definitions hs.definitions) g.hidden
  where
    same : (bs : List BindingTree) (rs : List Bool) (ds : List DefinitionTree) (hidden : List Bool) → bs ≡ old.bindings → rs ≡ old.records → ds ≡ old.definitions → hidden ≡ old.hidden →
        record { bindings = bs; records = rs; definitions = ds; hidden = hidden } ≡ old
    same bs rs ds hidden a b c d = rw (a, b, c, d) refl
