use Rattle.std.proofs.Common.{◌≡◌, ◌+◌, ◌-◌, ◌<◌, ◌++◌, true, false, [], ◌∷◌, length, Some, None, refl, sym, ◌∙◌, ap, ap₂, subst, arith}
use Rattle.std.specs.Vec.{with_item}
use Rattle.std.proofs.lemmas.List.{length-set}
use Rattle.bucket_grid.specs.declared.cell.Cell.{Cell}
use Rattle.bucket_grid.specs.Cells.{IsBucket}
use Rattle.bucket_grid.specs.Grids.{GridValue}
use Rattle.bucket_check.specs.declared.bucket_work.BucketWork.{BucketWork}
use Rattle.bucket_check.specs.ClashSets.{SetValue}
use Rattle.book_turn.specs.Entries.{listed}
use Rattle.book_history.specs.declared.changes.Change.TheVariants.{BucketDone}
use Rattle.book_history.specs.declared.changes.Entry.{Entry}
use Rattle.book_history.specs.declared.limits.Settings.{Settings}
use Rattle.book_history.specs.declared.replies.ReplyBody.TheVariants as reply
use Rattle.book_history.specs.Versions.{VersionState, version_at, is_done, with_done}
use Rattle.book_history.specs.Projects.{with_bucket}
use Rattle.book_history.specs.History.{state_of}
use Rattle.book_history.specs.Legal.{IsGiven}
use Rattle.book_history.specs.Refusals.{dropped}
use Rattle.book_history.specs.Requests.{finished, body_of, entry_by, entry_of}
use Rattle.federation_book.specs.declared.project.Project.{Project}
use Rattle.federation_book.specs.declared.state.State.{State}
use Rattle.federation_book.specs.KeptProjects.{KeepsProject, settings_of}
use Rattle.federation_book.proofs.Accepting.{kept_after}
use Rattle.federation_book.proofs.Reading.{newest_small, not_dropped, live_place, placed, placed_there}
use Rattle.federation_book.proofs.Taking.{kept_numbered}
use Rattle.federation_book.proofs.Answering.{nothing_added}
use Rattle.federation_book.proofs.Finishing.{left_less, keeps_done, left_done, done_is, room_done, finish_dropped, finish_again, finish_taken, made_is}
use Rattle.federation_book.proofs.working.finish.Goals as goal

pub dropped-requires-clause-few : goal.dropped-requires-clause-few
dropped-requires-clause-few c =
    let room = c.requires.kept.room in
    let most = c.requires.kept.within.journal in
    newest_small c.project-project.result.now c.work-work.result.now.project c.args.state.now.entries.items c.project-project.ensures (omega (arith, room, most))

pub dropped-requires-clause-made : goal.dropped-requires-clause-made
dropped-requires-clause-made c =
    let is = c.work-work.ensures ∙ ap (λ (s : SetValue). s.work) c.get.ensures in
    let given = subst (IsGiven (settings_of c.args.state.now) c.args.state.now.entries.items) (sym is) c.requires.given in
    made_is c.project-project.result.now (state_of c.work-work.result.now.project c.args.state.now.entries.items) c.work-work.result.now.version c.project-project.ensures given.made

pub returns-in-Some-clause-reply : goal.returns-in-Some-clause-reply
returns-in-Some-clause-reply c =
    let h = c.args.state.now.entries.items in
    let is = c.work-work.ensures ∙ ap (λ (s : SetValue). s.work) c.get.ensures in
    let fault = subst (λ (x : BucketWork). Some c.in-Some.fault ≡ dropped (state_of x.project h) x.version) is (sym c.in-Some.is ∙ c.dropped.ensures (state_of c.work-work.result.now.project h) c.project-project.ensures) in
    sym (ap (body_of h) (finish_dropped h c.args.set c.in-Some.fault fault))

pub returns-in-Some-clause-added : goal.returns-in-Some-clause-added
returns-in-Some-clause-added c =
    let h = c.args.state.now.entries.items in
    let is = c.work-work.ensures ∙ ap (λ (s : SetValue). s.work) c.get.ensures in
    let fault = subst (λ (x : BucketWork). Some c.in-Some.fault ≡ dropped (state_of x.project h) x.version) is (sym c.in-Some.is ∙ c.dropped.ensures (state_of c.work-work.result.now.project h) c.project-project.ensures) in
    nothing_added h (listed (entry_by c.args.stamp (finished h c.args.set))) (ap (λ o. listed (entry_by c.args.stamp o)) (finish_dropped h c.args.set c.in-Some.fault fault))

pub place_of-place-requires-clause-made : goal.place_of-place-requires-clause-made
place_of-place-requires-clause-made c =
    let is = c.work-work.ensures ∙ ap (λ (s : SetValue). s.work) c.get.ensures in
    let given = subst (IsGiven (settings_of c.args.state.now) c.args.state.now.entries.items) (sym is) c.requires.given in
    made_is c.project-project.result.now (state_of c.work-work.result.now.project c.args.state.now.entries.items) c.work-work.result.now.version c.project-project.ensures given.made

pub place_of-place-requires-clause-live : goal.place_of-place-requires-clause-live
place_of-place-requires-clause-live c =
    let w = c.work-work.result.now in
    let p = c.project-project.result.now in
    let s = state_of w.project c.args.state.now.entries.items in
    let k = c.project-project.ensures in
    let is = c.work-work.ensures ∙ ap (λ (x : SetValue). x.work) c.get.ensures in
    let given = subst (IsGiven (settings_of c.args.state.now) c.args.state.now.entries.items) (sym is) c.requires.given in
    let live = not_dropped p s w.version k (sym c.in_default.is ∙ c.dropped.ensures s k) in
    live_place p s w.version k (made_is p s w.version k given.made) live

pub index-requires : goal.index-requires
index-requires c =
    let w = c.work-work.result.now in
    let p = c.project-project.result.now in
    let s = state_of w.project c.args.state.now.entries.items in
    let k = c.project-project.ensures in
    let is = c.work-work.ensures ∙ ap (λ (x : SetValue). x.work) c.get.ensures in
    let given = subst (IsGiven (settings_of c.args.state.now) c.args.state.now.entries.items) (sym is) c.requires.given in
    let live = not_dropped p s w.version k (sym c.in_default.is ∙ c.dropped.ensures s k) in
    let within = (placed p s w.version c.place_of-place.result k (made_is p s w.version k given.made) live c.place_of-place.ensures).within in
    let all = p.live.ok.0 in
    omega (arith, within, all)

pub returns-then-is_done-clause-reply : goal.returns-then-is_done-clause-reply
returns-then-is_done-clause-reply c =
    let h = c.args.state.now.entries.items in
    let w = c.work-work.result.now in
    let p = c.project-project.result.now in
    let s = state_of w.project h in
    let k = c.project-project.ensures in
    let is = c.work-work.ensures ∙ ap (λ (x : SetValue). x.work) c.get.ensures in
    let given = subst (IsGiven (settings_of c.args.state.now) h) (sym is) c.requires.given in
    let none = sym c.in_default.is ∙ c.dropped.ensures s k in
    let at = placed p s w.version c.place_of-place.result k (made_is p s w.version k given.made) (not_dropped p s w.version k none) c.place_of-place.ensures in
    let done : true ≡ is_done (version_at s.versions w.version) w.cell = sym c.if-is_done.true ∙ c.is_done.ensures ∙ ap (λ v. is_done v w.cell) (c.index.ensures ∙ at.is c.index.result.now) in
    sym (ap (body_of h) (finish_again h c.args.set
    (subst (λ (x : BucketWork). None ≡ dropped (state_of x.project h) x.version) is none)
    (subst (λ (x : BucketWork). true ≡ is_done (version_at (state_of x.project h).versions x.version) x.cell) is done)))

pub returns-then-is_done-clause-added : goal.returns-then-is_done-clause-added
returns-then-is_done-clause-added c =
    let h = c.args.state.now.entries.items in
    let w = c.work-work.result.now in
    let p = c.project-project.result.now in
    let s = state_of w.project h in
    let k = c.project-project.ensures in
    let is = c.work-work.ensures ∙ ap (λ (x : SetValue). x.work) c.get.ensures in
    let given = subst (IsGiven (settings_of c.args.state.now) h) (sym is) c.requires.given in
    let none = sym c.in_default.is ∙ c.dropped.ensures s k in
    let at = placed p s w.version c.place_of-place.result k (made_is p s w.version k given.made) (not_dropped p s w.version k none) c.place_of-place.ensures in
    let done : true ≡ is_done (version_at s.versions w.version) w.cell = sym c.if-is_done.true ∙ c.is_done.ensures ∙ ap (λ v. is_done v w.cell) (c.index.ensures ∙ at.is c.index.result.now) in
    nothing_added h (listed (entry_by c.args.stamp (finished h c.args.set))) (ap (λ o. listed (entry_by c.args.stamp o)) (finish_again h c.args.set
    (subst (λ (x : BucketWork). None ≡ dropped (state_of x.project h) x.version) is none)
    (subst (λ (x : BucketWork). true ≡ is_done (version_at (state_of x.project h).versions x.version) x.cell) is done)))

pub index_mut-requires : goal.index_mut-requires
index_mut-requires c =
    let h = c.args.state.now.entries.items in
    let w = c.work-work.result.now in
    let p = c.project-project.result.now in
    let q = c.index_mut-project.result.now in
    let s = state_of w.project h in
    let k = c.project-project.ensures in
    let is = c.work-work.ensures ∙ ap (λ (x : SetValue). x.work) c.get.ensures in
    let given = subst (IsGiven (settings_of c.args.state.now) h) (sym is) c.requires.given in
    let l : KeepsProject q s = kept_numbered c.args.state.now.projects.items h w.project q c.requires.kept.states given.low given.high c.index_mut-project.ensures.value in
    let within = (placed_there p q s w.version c.place_of-place.result k l (made_is p s w.version k given.made) (not_dropped p s w.version k (sym c.in_default.is ∙ c.dropped.ensures s k)) c.place_of-place.ensures).within in
    let all = q.live.ok.0 in
    omega (arith, within, all)

pub put-left-requires-clause-content : goal.put-left-requires-clause-content
put-left-requires-clause-content c =
    let h = c.args.state.now.entries.items in
    let w = c.work-work.result.now in
    let p = c.project-project.result.now in
    let q = c.index_mut-project.result.now in
    let s = state_of w.project h in
    let k = c.project-project.ensures in
    let is = c.work-work.ensures ∙ ap (λ (x : SetValue). x.work) c.get.ensures in
    let given = subst (IsGiven (settings_of c.args.state.now) h) (sym is) c.requires.given in
    let l : KeepsProject q s = kept_numbered c.args.state.now.projects.items h w.project q c.requires.kept.states given.low given.high c.index_mut-project.ensures.value in
    let at = placed_there p q s w.version c.place_of-place.result k l (made_is p s w.version k given.made) (not_dropped p s w.version k (sym c.in_default.is ∙ c.dropped.ensures s k)) c.place_of-place.ensures in
    ap (λ (x : BucketWork). x.grid.version) (sym is) ∙ given.content ∙ ap (λ (v : VersionState). v.content) (sym (c.index_mut.ensures.value ∙ at.is c.index_mut.result.now))

pub put-left-requires-clause-bucket : goal.put-left-requires-clause-bucket
put-left-requires-clause-bucket c = c.requires.given.bucket

pub returns-clause-reply : goal.returns-clause-reply
returns-clause-reply c =
    let h = c.args.state.now.entries.items in
    let w = c.work-work.result.now in
    let p = c.project-project.result.now in
    let q = c.index_mut-project.result.now in
    let s = state_of w.project h in
    let k = c.project-project.ensures in
    let is = c.work-work.ensures ∙ ap (λ (x : SetValue). x.work) c.get.ensures in
    let given = subst (IsGiven (settings_of c.args.state.now) h) (sym is) c.requires.given in
    let made = made_is p s w.version k given.made in
    let none = sym c.in_default.is ∙ c.dropped.ensures s k in
    let live = not_dropped p s w.version k none in
    let l : KeepsProject q s = kept_numbered c.args.state.now.projects.items h w.project q c.requires.kept.states given.low given.high c.index_mut-project.ensures.value in
    let first = placed p s w.version c.place_of-place.result k made live c.place_of-place.ensures in
    let second = placed_there p q s w.version c.place_of-place.result k l made live c.place_of-place.ensures in
    let open_ : false ≡ is_done (version_at s.versions w.version) w.cell = sym c.if-is_done.false ∙ c.is_done.ensures ∙ ap (λ v. is_done v w.cell) (c.index.ensures ∙ first.is c.index.result.now) in
    let cell : c.args.set.work.cell ≡ w.cell = ap (λ (x : BucketWork). x.cell) (sym is) in
    let put : c.put-left.new.self ≡ with_done w.cell (version_at s.versions w.version) =
    c.put-left.ensures.done ∙ ap (λ (x : Cell). with_done x c.index_mut.result.now) cell ∙ ap (with_done w.cell) (c.index_mut.ensures.value ∙ second.is c.index_mut.result.now) in
    let n = l.newest in
    let there : w.version < length s.versions = omega (arith, n, made, second.within) in
    let left : c.put-left.result ≡ length (version_at (with_bucket s w.version w.cell).versions w.version).undone =
    c.put-left.ensures.left ∙ ap (λ (v : VersionState). length v.undone) (put ∙ sym (done_is q s w.version c.place_of-place.result w.cell l second there)) in
    subst (λ (x : BucketWork). reply.Finished c.put-left.result ≡ reply.Finished (length (version_at (with_bucket (state_of x.project h) x.version x.cell).versions x.version).undone)) is (ap reply.Finished left)
    ∙ sym (ap (body_of h) (finish_taken h c.args.set
    (subst (λ (x : BucketWork). None ≡ dropped (state_of x.project h) x.version) is none)
    (subst (λ (x : BucketWork). false ≡ is_done (version_at (state_of x.project h).versions x.version) x.cell) is open_)))

pub returns-clause-added : goal.returns-clause-added
returns-clause-added c =
    let h = c.args.state.now.entries.items in
    let w = c.work-work.result.now in
    let p = c.project-project.result.now in
    let s = state_of w.project h in
    let k = c.project-project.ensures in
    let is = c.work-work.ensures ∙ ap (λ (x : SetValue). x.work) c.get.ensures in
    let given = subst (IsGiven (settings_of c.args.state.now) h) (sym is) c.requires.given in
    let made = made_is p s w.version k given.made in
    let none = sym c.in_default.is ∙ c.dropped.ensures s k in
    let live = not_dropped p s w.version k none in
    let first = placed p s w.version c.place_of-place.result k made live c.place_of-place.ensures in
    let open_ : false ≡ is_done (version_at s.versions w.version) w.cell = sym c.if-is_done.false ∙ c.is_done.ensures ∙ ap (λ v. is_done v w.cell) (c.index.ensures ∙ first.is c.index.result.now) in
    let pushed : c.append.new.self.entries.items ≡ h ++ entry_of c.args.stamp w.project (BucketDone w.version w.cell) ∷ [] =
    c.append.ensures.entries ∙ ap (λ es. es ++ entry_of c.args.stamp w.project (BucketDone w.version w.cell) ∷ []) c.in_ok-reserve.ensures.items in
    subst (λ (x : BucketWork). c.append.new.self.entries.items ≡ h ++ entry_of c.args.stamp x.project (BucketDone x.version x.cell) ∷ []) is pushed
    ∙ ap (λ o. h ++ listed (entry_by c.args.stamp o)) (sym (finish_taken h c.args.set
    (subst (λ (x : BucketWork). None ≡ dropped (state_of x.project h) x.version) is none)
    (subst (λ (x : BucketWork). false ≡ is_done (version_at (state_of x.project h).versions x.version) x.cell) is open_)))

pub returns-clause-settings : goal.returns-clause-settings
returns-clause-settings c =
    ap₂ (λ m l. (let r : Settings = record { projects = m; limits = l } in r))
    (ap (λ ps. length ps.items) c.append.ensures.projects ∙ length-set c.args.state.now.projects.items (c.work-work.result.now.project - 1) _) c.append.ensures.limits

pub returns-clause-kept : goal.returns-clause-kept
returns-clause-kept c =
    let old = c.args.state.now in
    let h = old.entries.items in
    let w = c.work-work.result.now in
    let p = c.project-project.result.now in
    let q = c.index_mut-project.result.now in
    let s = state_of w.project h in
    let k = c.project-project.ensures in
    let is = c.work-work.ensures ∙ ap (λ (x : SetValue). x.work) c.get.ensures in
    let given = subst (IsGiven (settings_of old) h) (sym is) c.requires.given in
    let made = made_is p s w.version k given.made in
    let none = sym c.in_default.is ∙ c.dropped.ensures s k in
    let live = not_dropped p s w.version k none in
    let l : KeepsProject q s = kept_numbered old.projects.items h w.project q c.requires.kept.states given.low given.high c.index_mut-project.ensures.value in
    let first = placed p s w.version c.place_of-place.result k made live c.place_of-place.ensures in
    let second = placed_there p q s w.version c.place_of-place.result k l made live c.place_of-place.ensures in
    let open_ : false ≡ is_done (version_at s.versions w.version) w.cell = sym c.if-is_done.false ∙ c.is_done.ensures ∙ ap (λ v. is_done v w.cell) (c.index.ensures ∙ first.is c.index.result.now) in
    let cell : c.args.set.work.cell ≡ w.cell = ap (λ (x : BucketWork). x.cell) (sym is) in
    let put : c.put-left.new.self ≡ with_done w.cell (version_at s.versions w.version) =
    c.put-left.ensures.done ∙ ap (λ (x : Cell). with_done x c.index_mut.result.now) cell ∙ ap (with_done w.cell) (c.index_mut.ensures.value ∙ second.is c.index_mut.result.now) in
    let n = l.newest in
    let there : w.version < length s.versions = omega (arith, n, made, second.within) in
    let content = ap (λ (g : GridValue). g.version) c.get-2.ensures ∙ given.content in
    let bucket = subst (λ (g : GridValue). IsBucket g.boxes w.cell) (sym c.get-2.ensures) given.bucket in
    let less = left_less (version_at s.versions w.version) c.get-2.result.now w.cell c.know_grid.ensures content bucket open_ in
    let fewer = left_done q s w.version c.place_of-place.result w.cell l second there less in
    let done : Project = record { board = q.board; newest = q.newest; live = with_item q.live c.place_of-place.result c.put-left.new.self } in
    let e : Entry = entry_of c.args.stamp w.project (BucketDone w.version w.cell) in
    let pushed : c.append.new.self.entries.items ≡ h ++ e ∷ [] = c.append.ensures.entries ∙ ap (λ es. es ++ e ∷ []) c.in_ok-reserve.ensures.items in
    kept_after old c.append.new.self e done c.requires.kept c.requires.after given.low given.high
    (keeps_done q s w.version c.place_of-place.result w.cell l second there done c.put-left.new.self refl refl refl put)
    (ap (λ ps. ps.items) c.append.ensures.projects) pushed c.append.ensures.triangles c.append.ensures.text c.append.ensures.limits
    (room_done (length old.projects.items) old.limits.journal h w.project w.version w.cell c.requires.kept.room given.low given.high fewer)
