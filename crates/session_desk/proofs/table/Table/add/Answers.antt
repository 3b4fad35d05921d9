-- A session of the query stands behind the others.
use Rattle.shared_lemmas.proofs.Common.{◌≡◌, ◌+◌, ◌∙◌, ap, length, refl, subst, sym, arith, AllByRecursion}
use Rattle.session_desk.proofs.Below.{Query, IsInUse, Promises, spare_of, query_data, need_of, chain_of, Session}
use Rattle.shared_lemmas.proofs.Lists.{all_weaker}
use Rattle.ranking_model.specs.Search.{query_data as plain_data}
use Rattle.session_desk.specs.Standing.{sessions_data, session_data, state_of}
use Rattle.session_desk.specs.Private.Standing.{SessionsStand}
use Rattle.session_desk.proofs.Granting.{state_shown}
use Rattle.session_desk.proofs.Joining.{session_for, joined_shows, number_free, opened_so, spare_seen}
use Rattle.session_desk.proofs.Placing.{HasOtherName}
use Rattle.session_desk.proofs.Seating.{Stands, all_stand}
use Rattle.session_desk.proofs.table.Table.add.Goals as goal

pub open-requires-clause-chain : goal.open-requires-clause-chain
open-requires-clause-chain g c = number_free (g.S.Source.index c.args.source.now) c.args.self.now.pool c.args.self.now.sessions.items c.requires.stands.sessions c.requires.room

pub returns-in-Ok-clause-stands : goal.returns-in-Ok-clause-stands
returns-in-Ok-clause-stands g c =
    let index = (g.S.Source.index c.args.source.now) in let old = c.args.self.now.pool in let items = c.args.self.now.sessions.items in
    let s = c.in-Ok.session in let opened = c.in-Ok.ensures in
    let same : s.query ≡ c.args.query = opened.query in
    let used = all_weaker (Stands index old) (λ (t : Session). IsInUse old (chain_of t)) (λ t stands. c.a_standing_session_has_its_chain.ensures.in_use t index old stands) items c.requires.stands.sessions.each in
    let promised = subst (λ (q : Query). Promises old c.open.new.pool (chain_of s) (need_of index q.terms)) (sym same) opened.promised in
    let spare = subst (λ (q : Query). spare_of c.open.new.pool + need_of index q.terms ≡ spare_of old) (sym same) opened.spare in
    record {
      sessions = subst (SessionsStand index c.open.new.pool) (sym c.push_reserved.ensures.items)
          (all_stand c.calls_on_other_chains_leave_sessions.ensures.all index old c.open.new.pool items s c.requires.stands.sessions c.requires.room
          (subst (λ (q : Query). AllByRecursion (HasOtherName q.id) items) (sym same) c.requires.others) used opened.stands promised opened.others spare);
      room = omega (arith, c.push_reserved.ensures.capacity, c.requires.stands.room);
    }

pub returns-in-Ok-clause-opens : goal.returns-in-Ok-clause-opens
returns-in-Ok-clause-opens g c =
    let index = (g.S.Source.index c.args.source.now) in let old = c.args.self.now.pool in let items = c.args.self.now.sessions.items in
    let s = c.in-Ok.session in let opened = c.in-Ok.ensures in
    let before = spare_seen index old items c.requires.stands.sessions ∙ sym c.spare-before.ensures.spare in
    let paid : c.spare.result + need_of index c.args.query.terms ≡ c.spare-before.result = omega (arith, opened.spare, c.spare.ensures.spare, c.spare-before.ensures.spare) in
    let session : session_data s ≡ session_for (query_data c.args.query) c.args.k = λ i. record { query = plain_data (opened.query i); k = opened.k i; granted = opened.granted i } in (
      opened_so index (state_of c.args.self.now) c.args.k c.spare-before.result c.spare.result (query_data c.args.query) before paid,
      state_shown _ _ _ _ (ap sessions_data c.push_reserved.ensures.items) (ap length opened.promised.frames)
          ∙ joined_shows index items s c.args.k (length old.frames) (length old.frames) c.spare-before.result c.spare.result (query_data c.args.query) before paid session refl,
    )
