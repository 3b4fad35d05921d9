-- A name and room are judged, and then mentions.
use Rattle.shared_lemmas.proofs.Common.{◌∙◌, ℕ, List, Ok, Err, Result, ap, refl, subst, sym, AllByRecursion}
use Rattle.session_desk.proofs.Below.{texts_of, query_data, read_mentions, mentions_of, blank_runs, Plain}
use Rattle.session_desk.specs.declared.refusal.DeskRefusal.{DeskRefusal}
use Rattle.session_desk.specs.declared.opening.SessionFault.{SessionFault}
use Rattle.session_desk.specs.Private.Opening.{Opens}
use Rattle.session_desk.specs.Replies.{fitting, opening}
use Rattle.session_desk.specs.State.{OpenSession}
use Rattle.session_desk.specs.Standing.{state_of}
use Rattle.session_desk.proofs.Joining.{plain_so, read_name, read_so, refused_first, refused_so, then_fits}
use Rattle.session_desk.proofs.Placing.{HasOtherName}
use Rattle.session_desk.proofs.table.Table.open.Goals as goal

pub returns-in-Some-clause-opens : goal.returns-in-Some-clause-opens
returns-in-Some-clause-opens g c =
    (refused_first (g.S.Source.index c.args.source.now) (state_of c.args.self.now) c.args.name.now c.args.k (blank_runs c.args.mentions.now) c.in-Some.refusal (sym c.in-Some.ensures.refusal), refl)

pub add-requires-clause-others : goal.add-requires-clause-others
add-requires-clause-others g c =
    let named = read_name (texts_of (g.S.Source.index c.args.source.now).terms) c.args.name.now (mentions_of Plain c.args.mentions.now) (query_data c.in-Ok.query) (read_so _ _ c.in-Ok.ensures.query) in
    subst (λ (name : List ℕ). AllByRecursion (HasOtherName name) c.args.self.now.sessions.items) (sym named) c.in-None.ensures.free

pub returns-in-Ok-clause-opens : goal.returns-in-Ok-clause-opens
returns-in-Ok-clause-opens g c =
    let index = (g.S.Source.index c.args.source.now) in let state = state_of c.args.self.now in let name = c.args.name.now in
    let read = read_so _ _ c.in-Ok.ensures.query in
    let named = read_name (texts_of index.terms) name (mentions_of Plain c.args.mentions.now) (query_data c.in-Ok.query) read in
    let found = then_fits index state name c.args.k (blank_runs c.args.mentions.now) (sym c.in-None.ensures.refusal)
    ∙ ap (fitting index state c.args.k) (ap (read_mentions (texts_of index.terms) name) (sym (plain_so c.args.mentions.now)) ∙ read) in
    subst (λ (r : Result OpenSession DeskRefusal). Opens index r name state (state_of c.add.new.self) c.add.result) (sym found)
    (subst (λ (n : List ℕ). Opens index (fitting index state c.args.k (Ok (query_data c.in-Ok.query))) n state (state_of c.add.new.self) c.add.result) named c.add.ensures.opens)

pub returns-in-Err-clause-opens : goal.returns-in-Err-clause-opens
returns-in-Err-clause-opens g c =
    let index = (g.S.Source.index c.args.source.now) in let state = state_of c.args.self.now in let name = c.args.name.now in
    let found = then_fits index state name c.args.k (blank_runs c.args.mentions.now) (sym c.in-None.ensures.refusal)
    ∙ ap (λ ms. fitting index state c.args.k (read_mentions (texts_of index.terms) name ms)) (sym (plain_so c.args.mentions.now)) in
    subst (λ (fault : SessionFault). Opens index (opening index state name c.args.k (blank_runs c.args.mentions.now)) name state state (Err fault)) (sym c.session_fault.ensures)
    (refused_so index name state c.args.k (read_mentions (texts_of index.terms) name (mentions_of Plain c.args.mentions.now)) _ c.in-Err.fault found c.in-Err.ensures.query)
