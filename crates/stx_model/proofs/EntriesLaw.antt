-- How many entries histories have whose scripts have read all of them: no more than scripts read.
use Rattle.std.proofs.Common.{◌≡◌, ℕ, zero, suc, ◌+◌, ◌*◌, ◌≤◌, length, refl, ap, arith}
use Rattle.stx_base.specs.Stores.{store_facts}
use Rattle.stx_base.specs.Histories.{pool_notes_of, store_notes_of, sum_below}
use Rattle.stx_base.specs.Weight.{weight}
use Rattle.stx_model.specs.Laws.{EntriesWithin}
use Rattle.stx_model.specs.Reads.{notes_read}
use Rattle.stx_base.proofs.HistoryLaws.{length-made, sum_below-same}
use Rattle.stx_base.proofs.LegalLaws.{PoolLegal-clients, StoreLegal-clients}
use Rattle.stx_model.proofs.ReadsLaw.{reads_within}

sum_below_plus : (n : ℕ) (f g : ℕ → ℕ) → sum_below n (λ i. f i + g i) ≡ sum_below n f + sum_below n g
sum_below_plus zero f g = refl
sum_below_plus (suc n) f g = let rest : sum_below n (λ i. f i + g i) ≡ sum_below n f + sum_below n g = sum_below_plus n f g in omega arith

pub entries_within : EntriesWithin
entries_within S range acyclic pool store pool_legal store_legal reads_all =
    let of_pool : ℕ → ℕ = λ c. length (pool_notes_of pool c) in
    let of_store : ℕ → ℕ = λ c. length (store_notes_of store c) in
    let read : ℕ → ℕ = λ c. notes_read S c (pool_notes_of pool c) (store_notes_of store c) in
    let pool_whole : length pool ≡ sum_below (length S.clients) of_pool =
    length-made (λ e. e.client) (λ e. e.note) (length S.clients) pool (PoolLegal-clients (length S.clients) S.settings.pool pool pool_legal) in
    let store_whole : length store ≡ sum_below (length S.clients) of_store =
    length-made (λ e. e.client) (λ e. e.note) (length S.clients) store (StoreLegal-clients (length S.clients) (store_facts S) store store_legal) in
    let each : sum_below (length S.clients) (λ c. of_pool c + of_store c) ≡ sum_below (length S.clients) read =
    sum_below-same (length S.clients) read (λ c. of_pool c + of_store c) (λ c below. let all = reads_all c below in omega (arith, ap length all.pool_read, ap length all.store_read)) in
    let both : sum_below (length S.clients) (λ c. of_pool c + of_store c) ≡ sum_below (length S.clients) of_pool + sum_below (length S.clients) of_store = sum_below_plus (length S.clients) of_pool of_store in
    let few : sum_below (length S.clients) read ≤ 8 * weight S = reads_within S range acyclic (pool_notes_of pool) (store_notes_of store) in
    omega arith
