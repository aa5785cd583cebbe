-- What a message that is decoded asks or gives.
use Rattle.std.proofs.Common.{◌≡◌, refl, subst, ap, ◌∙◌, ℕ, List}
use Rattle.std.specs.Prelude.{◌≢◌}
use Rattle.px_entry.specs.declared.derivations.Derivation.{Derivation}
use Rattle.px_entry.specs.declared.tables.Table.{Table}
use Rattle.px_callgraph.specs.JobTree.{JobTree}
use Rattle.px_wire.specs.Messages.{MessageTree, request, reply, large, Spells}
use Rattle.px_wire.proofs.MessageRoundTrips.{one_message}
use Rattle.px_keep.specs.Lent.{AsksUnder0, GivesUnder0}

module _ (m : List ℕ) where
  -- ---- what it asks

  pub asks : (j : JobTree) → Spells m (request j) → j.ticket ≡ 0 → AsksUnder0 m j.proc.0
  asks j p e = (j, p, e, refl)

  pub other_ticket : (j : JobTree) → Spells m (request j) → j.ticket ≢ 0 → (n : ℕ) → ¬ AsksUnder0 m n
  other_ticket j p other n (k, q, e, _) = let same : request j ≡ request k = one_message m (request j) (request k) p q in let jobs : j ≡ k = cc in other (ap (λ (x : JobTree). x.ticket) jobs ∙ e)

  pub reply_asks_none : (ticket : ℕ) (kinds : List ℕ) (t : Table) (ds : List Derivation) → Spells m (reply ticket kinds t ds) → (n : ℕ) → ¬ AsksUnder0 m n
  reply_asks_none ticket kinds t ds p n (j, q, _, _) = let clash : request j ≡ reply ticket kinds t ds = one_message m (request j) (reply ticket kinds t ds) q p in cc

  pub large_asks_none : (ticket : ℕ) → Spells m (large ticket) → (n : ℕ) → ¬ AsksUnder0 m n
  large_asks_none ticket p n (j, q, _, _) = let clash : request j ≡ large ticket = one_message m (request j) (large ticket) q p in cc

  pub none_asks_none : ((tree : MessageTree) → ¬ Spells m tree) → (n : ℕ) → ¬ AsksUnder0 m n
  none_asks_none none n (j, q, _, _) = none (request j) q

  -- ---- what it gives

  pub gives : (kinds : List ℕ) (t : Table) (ds : List Derivation) (ticket : ℕ) → Spells m (reply ticket kinds t ds) → ticket ≡ 0 → GivesUnder0 m
  gives kinds t ds ticket p e = (kinds, t, ds, subst (λ n. Spells m (reply n kinds t ds)) e p)

  pub its_ticket : (kinds : List ℕ) (t : Table) (ds : List Derivation) (ticket : ℕ) → Spells m (reply ticket kinds t ds) → GivesUnder0 m → ticket ≡ 0
  its_ticket kinds t ds ticket p (ks, u, es, q) = let same : reply ticket kinds t ds ≡ reply 0 ks u es = one_message m (reply ticket kinds t ds) (reply 0 ks u es) p q in cc

  pub request_gives_none : (j : JobTree) → Spells m (request j) → ¬ GivesUnder0 m
  request_gives_none j p (ks, u, es, q) = let clash : request j ≡ reply 0 ks u es = one_message m (request j) (reply 0 ks u es) p q in cc

  pub large_gives_none : (ticket : ℕ) → Spells m (large ticket) → ¬ GivesUnder0 m
  large_gives_none ticket p (ks, u, es, q) = let clash : large ticket ≡ reply 0 ks u es = one_message m (large ticket) (reply 0 ks u es) p q in cc

  pub none_gives_none : ((tree : MessageTree) → ¬ Spells m tree) → ¬ GivesUnder0 m
  none_gives_none none (ks, u, es, q) = none (reply 0 ks u es) q
