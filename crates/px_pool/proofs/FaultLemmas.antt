-- A message has one fault at most, as the reply to a job in a version, and none where it gives a table.
use Rattle.std.proofs.Common.{◌≡◌, inl, inr, ℕ, List, [], refl, sym, ap, subst, ◌∙◌, arith}
use Rattle.px_entry.specs.declared.derivations.Derivation.{Derivation}
use Rattle.px_entry.specs.declared.tables.Table.{Table}
use Rattle.px_callgraph.specs.JobTree.{JobTree}
use Rattle.px_wire.specs.Messages.{MessageTree, request, reply, large}
use Rattle.px_wire.specs.Versions.{SpellsIn}
use Rattle.px_wire.proofs.MessageRoundTrips.{one_told}
use Rattle.px_pieces.specs.declared.desk.Lost.{Lost}
use Rattle.px_pieces.specs.declared.desk.Lost.TheVariants.{Send, Read, Closed, Frame, Ticket, Kinds, Refused, Large, NoMemory}
use Rattle.px_pool.specs.Derived.{AreRefused}
use Rattle.px_pool.specs.Outcomes.{NamesTicket, GivesTable, IsFaultIn}
use Rattle.px_pool.specs.Laws.{IsShown}
use Rattle.px_pool.proofs.RefusalLemmas.{refused_once, derived_or_refused}

-- ---- the parts of a message

ticket_in : MessageTree → ℕ
ticket_in (request j) = 0
ticket_in (reply ticket kinds t ds) = ticket
ticket_in (large ticket) = ticket

tag_of : MessageTree → ℕ
tag_of (request j) = 0
tag_of (reply ticket kinds t ds) = 1
tag_of (large ticket) = 2

kinds_in : MessageTree → List ℕ
kinds_in (request j) = []
kinds_in (reply ticket kinds t ds) = kinds
kinds_in (large ticket) = []

table_in : Table → MessageTree → Table
table_in d (request j) = d
table_in d (reply ticket kinds t ds) = t
table_in d (large ticket) = d

derivations_in : MessageTree → List Derivation
derivations_in (request j) = []
derivations_in (reply ticket kinds t ds) = ds
derivations_in (large ticket) = []

named : (v : ℕ) (m : List ℕ) (a : ℕ) → NamesTicket v m a → (tree : MessageTree) × SpellsIn v m tree × (ticket_in tree ≡ a)
unfolding ticket_in
named v m a (inl (kinds, t, ds, s)) = (reply a kinds t ds, s, refl)
named v m a (inr s) = (large a, s, refl)

-- a message is spelled in a version at most
one_message : (v : ℕ) (m : List ℕ) (x y : MessageTree) → SpellsIn v m x → SpellsIn v m y → x ≡ y
one_message v m x y p q = (one_told m v v x y p q).1

one_ticket : (v : ℕ) (m : List ℕ) (a b : ℕ) → NamesTicket v m a → NamesTicket v m b → a ≡ b
one_ticket v m a b p q = let r = named v m a p in let s = named v m b q in sym r.2 ∙ ap ticket_in (one_message v m r.0 s.0 r.1 s.1) ∙ s.2

reply_or_large : (v : ℕ) (m : List ℕ) (a b : ℕ) (kinds : List ℕ) (t : Table) (ds : List Derivation) → SpellsIn v m (reply a kinds t ds) → SpellsIn v m (large b) → ⊥
unfolding tag_of
reply_or_large v m a b kinds t ds p q = let clash : 1 ≡ 2 = ap tag_of (one_message v m (reply a kinds t ds) (large b) p q) in omega (arith, clash)

one_kinds : (v : ℕ) (m : List ℕ) (a b : ℕ) (k l : List ℕ) (t u : Table) (ds es : List Derivation) → SpellsIn v m (reply a k t ds) → SpellsIn v m (reply b l u es) → k ≡ l
unfolding kinds_in
one_kinds v m a b k l t u ds es p q = ap kinds_in (one_message v m (reply a k t ds) (reply b l u es) p q)

pub one_table : (v : ℕ) (m : List ℕ) (a b : ℕ) (k l : List ℕ) (t u : Table) (ds es : List Derivation) → SpellsIn v m (reply a k t ds) → SpellsIn v m (reply b l u es) → t ≡ u
unfolding table_in
one_table v m a b k l t u ds es p q = ap (table_in t) (one_message v m (reply a k t ds) (reply b l u es) p q)

one_list : (v : ℕ) (m : List ℕ) (a b : ℕ) (k l : List ℕ) (t u : Table) (ds es : List Derivation) → SpellsIn v m (reply a k t ds) → SpellsIn v m (reply b l u es) → ds ≡ es
unfolding derivations_in
one_list v m a b k l t u ds es p q = ap derivations_in (one_message v m (reply a k t ds) (reply b l u es) p q)

-- ---- one fault

module _ (v : ℕ) (j : JobTree) (m : List ℕ) where
  with_frame : (other : Lost) → ((ticket : ℕ) → ¬ NamesTicket v m ticket) → IsShown other → IsFaultIn v j m other → Frame ≡ other
  with_frame Frame none s h = refl
  with_frame (Ticket asked given) none s (_, _, names) = absurd (none given names)
  with_frame Kinds none s (kinds, t, ds, spells, _) = absurd (none j.ticket (inl (kinds, t, ds, spells)))
  with_frame (Refused entry step) none s (t, ds, spells, _) = absurd (none j.ticket (inl (j.kinds, t, ds, spells)))
  with_frame Large none s spells = absurd (none j.ticket (inr spells))
  with_frame NoMemory none s h = absurd s
  with_frame Send none s h = absurd h
  with_frame Read none s h = absurd h
  with_frame (Closed n) none s h = absurd h

  same_ticket : (a b c d : ℕ) → a ≡ c → b ≡ d → Ticket a b ≡ Ticket c d
  same_ticket a b c d p q = ap (λ n. Ticket n b) p ∙ ap (λ n. Ticket c n) q

  with_ticket : (asked given : ℕ) (other : Lost) → IsFaultIn v j m (Ticket asked given) → IsShown other → IsFaultIn v j m other → Ticket asked given ≡ other
  with_ticket asked given Frame p s h = sym (with_frame (Ticket asked given) h tt p)
  with_ticket asked given (Ticket asked' given') p s h = same_ticket asked given asked' given' (p.0 ∙ sym h.0) (one_ticket v m given given' p.2 h.2)
  with_ticket asked given Kinds p s (kinds, t, ds, spells, _) = absurd (p.1 (one_ticket v m given j.ticket p.2 (inl (kinds, t, ds, spells))))
  with_ticket asked given (Refused entry step) p s (t, ds, spells, _) = absurd (p.1 (one_ticket v m given j.ticket p.2 (inl (j.kinds, t, ds, spells))))
  with_ticket asked given Large p s spells = absurd (p.1 (one_ticket v m given j.ticket p.2 (inr spells)))
  with_ticket asked given NoMemory p s h = absurd s
  with_ticket asked given Send p s h = absurd h
  with_ticket asked given Read p s h = absurd h
  with_ticket asked given (Closed n) p s h = absurd h

  with_kinds : (other : Lost) → IsFaultIn v j m Kinds → IsShown other → IsFaultIn v j m other → Kinds ≡ other
  with_kinds Frame p s h = sym (with_frame Kinds h tt p)
  with_kinds (Ticket asked given) p s h = sym (with_ticket asked given Kinds h tt p)
  with_kinds Kinds p s h = refl
  with_kinds (Refused entry step) (kinds, t, ds, spells, differ) s (u, es, spells', _) = absurd (differ (one_kinds v m j.ticket j.ticket kinds j.kinds t u ds es spells spells'))
  with_kinds Large (kinds, t, ds, spells, _) s spells' = absurd (reply_or_large v m j.ticket j.ticket kinds t ds spells spells')
  with_kinds NoMemory p s h = absurd s
  with_kinds Send p s h = absurd h
  with_kinds Read p s h = absurd h
  with_kinds (Closed n) p s h = absurd h

  same_refused : (a b c d : ℕ) → a ≡ c → b ≡ d → Refused a b ≡ Refused c d
  same_refused a b c d p q = ap (λ n. Refused n b) p ∙ ap (λ n. Refused c n) q

  with_refused : (entry step : ℕ) (other : Lost) → IsFaultIn v j m (Refused entry step) → IsShown other → IsFaultIn v j m other → Refused entry step ≡ other
  with_refused entry step Frame p s h = sym (with_frame (Refused entry step) h tt p)
  with_refused entry step (Ticket asked given) p s h = sym (with_ticket asked given (Refused entry step) h tt p)
  with_refused entry step Kinds p s h = sym (with_kinds (Refused entry step) h tt p)
  with_refused entry step (Refused entry' step') (t, ds, spells, refused) s (u, es, spells', refused') =
      let tables = one_table v m j.ticket j.ticket j.kinds j.kinds t u ds es spells spells' in
      let lists = one_list v m j.ticket j.ticket j.kinds j.kinds t u ds es spells spells' in
      let there = subst (λ l. AreRefused j u.entries l entry step) lists (subst (λ (z : Table). AreRefused j z.entries ds entry step) tables refused) in
      let once = refused_once j u.entries es entry entry' step step' there refused' in
      same_refused entry step entry' step' once.0 once.1
  with_refused entry step Large (t, ds, spells, _) s spells' = absurd (reply_or_large v m j.ticket j.ticket j.kinds t ds spells spells')
  with_refused entry step NoMemory p s h = absurd s
  with_refused entry step Send p s h = absurd h
  with_refused entry step Read p s h = absurd h
  with_refused entry step (Closed n) p s h = absurd h

  with_large : (other : Lost) → IsFaultIn v j m Large → IsShown other → IsFaultIn v j m other → Large ≡ other
  with_large Frame p s h = sym (with_frame Large h tt p)
  with_large (Ticket asked given) p s h = sym (with_ticket asked given Large h tt p)
  with_large Kinds p s h = sym (with_kinds Large h tt p)
  with_large (Refused entry step) p s h = sym (with_refused entry step Large h tt p)
  with_large Large p s h = refl
  with_large NoMemory p s h = absurd s
  with_large Send p s h = absurd h
  with_large Read p s h = absurd h
  with_large (Closed n) p s h = absurd h

  pub one_fault : (why other : Lost) → IsShown why → IsShown other → IsFaultIn v j m why → IsFaultIn v j m other → why ≡ other
  one_fault Frame other s s' p h = with_frame other p s' h
  one_fault (Ticket asked given) other s s' p h = with_ticket asked given other p s' h
  one_fault Kinds other s s' p h = with_kinds other p s' h
  one_fault (Refused entry step) other s s' p h = with_refused entry step other p s' h
  one_fault Large other s s' p h = with_large other p s' h
  one_fault NoMemory other s s' p h = absurd s
  one_fault Send other s s' p h = absurd p
  one_fault Read other s s' p h = absurd p
  one_fault (Closed n) other s s' p h = absurd p

  -- a message that gives a table has no fault
  pub table_or_fault : (t : Table) (why : Lost) → IsShown why → GivesTable v j m t → IsFaultIn v j m why → ⊥
  table_or_fault t Frame s (ds, spells, derived) h = h j.ticket (inl (j.kinds, t, ds, spells))
  table_or_fault t (Ticket asked given) s (ds, spells, derived) (_, other, names) = other (one_ticket v m given j.ticket names (inl (j.kinds, t, ds, spells)))
  table_or_fault t Kinds s (ds, spells, derived) (kinds, u, es, spells', differ) = differ (one_kinds v m j.ticket j.ticket kinds j.kinds u t es ds spells' spells)
  table_or_fault t (Refused entry step) s (ds, spells, derived) (u, es, spells', refused) =
      let tables = one_table v m j.ticket j.ticket j.kinds j.kinds u t es ds spells' spells in
      let lists = one_list v m j.ticket j.ticket j.kinds j.kinds u t es ds spells' spells in
      derived_or_refused j t.entries ds entry step derived (subst (λ l. AreRefused j t.entries l entry step) lists (subst (λ (z : Table). AreRefused j z.entries es entry step) tables refused))
  table_or_fault t Large s (ds, spells, derived) spells' = reply_or_large v m j.ticket j.ticket j.kinds t ds spells spells'
  table_or_fault t NoMemory s p h = s
  table_or_fault t Send s p h = h
  table_or_fault t Read s p h = h
  table_or_fault t (Closed n) s p h = h
