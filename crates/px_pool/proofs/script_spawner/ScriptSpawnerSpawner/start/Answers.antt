use Rattle.px_pool.proofs.script_spawner.ScriptSpawnerSpawner.start.Goals as goal

pub returns-in-Some-clause-answer : goal.returns-in-Some-clause-answer
returns-in-Some-clause-answer g c =
    let e = c.in-Some.ensures in record {
      failing_stays = e.failing;
      counted = e.calls;
      failed = (λ is. absurd cc, λ fails. absurd (let none = e.fails.1 fails in cc));
      started = (c.in-Some.script, c.new.ensures, e.next);
      unspent = tt;
    }
