-- The scenario for load that a seed and a number of clients give: payments between sixteen accounts, each with a pick from
-- the stock in a nested scope, a note in a transaction of its own, and a mail once it is committed.
use Rattle.std.specs.Prelude.{ℕ, ◌+◌, ◌*◌, ◌/◌, ◌%◌, min, true, false, List, [], ◌∷◌, ◌++◌, map, replicate, codes, Some, None, ℤ, pos, neg_ℤ}
use Rattle.std.specs.List.{range_with_len}
use Rattle.std.specs.Fmt.{decimal}
use Rattle.stx_scenario.specs.declared.numbers.BeanNo.{BeanNo}
use Rattle.stx_scenario.specs.declared.numbers.EventNo.{EventNo}
use Rattle.stx_scenario.specs.declared.numbers.MethodNo.{MethodNo}
use Rattle.stx_scenario.specs.declared.numbers.RowNo.{RowNo}
use Rattle.stx_scenario.specs.declared.classes.TheConstants.{RUNTIME_EXCEPTION}
use Rattle.stx_scenario.specs.declared.scenario.Scenario.{Scenario}
use Rattle.stx_scenario.specs.declared.scenario.Settings.{Settings}
use Rattle.stx_scenario.specs.declared.scenario.SyncMode.{SyncMode}
use Rattle.stx_scenario.specs.declared.scenario.Bean.{Bean}
use Rattle.stx_scenario.specs.declared.scenario.Method.{Method}
use Rattle.stx_scenario.specs.declared.scenario.TxAttr.{TxAttr}
use Rattle.stx_scenario.specs.declared.scenario.Propagation.{Propagation}
use Rattle.stx_scenario.specs.declared.scenario.Listener.{Listener}
use Rattle.stx_scenario.specs.declared.scenario.Phase.{Phase}
use Rattle.stx_scenario.specs.declared.scenario.Stmt.{Stmt}
use Rattle.stx_scenario.specs.BuiltIn.{built_in}
use Rattle.stx_load.specs.declared.payments.Payment.{Payment}
use Rattle.stx_load.specs.Draws.{after, draw}

-- ---- rows: the accounts, and then stock, audit and mails

abbrev pub two_digits : ℕ → List ℕ
two_digits n = decimal (n / 10) ++ decimal (n % 10)

abbrev pub account_name : ℕ → List ℕ
account_name n = codes "acct" ++ two_digits n

abbrev pub row_names : List (List ℕ)
row_names = map account_name (range_with_len 0 16) ++ codes "stock" ∷ codes "audit" ∷ codes "mails" ∷ []

abbrev pub first_values : List ℤ
first_values = replicate 16 (pos 1000) ++ pos 100000 ∷ pos 0 ∷ pos 0 ∷ []

-- an account is the row of its number
abbrev pub row_no : ℕ → RowNo
row_no number = record { 0 = number }

-- ---- beans

abbrev pub plain_attribute : Propagation → TxAttr
plain_attribute propagation = record { propagation = propagation; read_only = false; rules = [] }

abbrev pub bean_with : List ℕ → Propagation → Bean
bean_with name propagation = record { name = name; tx = Some (plain_attribute propagation) }

abbrev pub beans : List Bean
beans = bean_with (codes "shop") Propagation.Required
    ∷ bean_with (codes "stock") Propagation.Nested
    ∷ bean_with (codes "audit") Propagation.RequiresNew
    ∷ []

abbrev pub bean_no : ℕ → BeanNo
bean_no number = record { 0 = number }

-- ---- methods: the payments t00 to t63, and then stock.pick, audit.note and audit.mail

abbrev pub method_no : ℕ → MethodNo
method_no number = record { 0 = number }

abbrev pub paid : EventNo
paid = record { 0 = 0 }

-- the payment that three draws from this state give: from an account to another one
abbrev pub payment : ℕ → Payment
payment x =
    let from = draw x 16 in
    record { from = from; to = (from + 1 + draw (after x 1) 15) % 16; amount = 1 + draw (after x 2) 50 }

-- a call whose exceptions are caught
abbrev pub tried : MethodNo → Stmt
tried method = Stmt.Call method (Some RUNTIME_EXCEPTION)

abbrev pub payment_body : Payment → List Stmt
payment_body p =
    let pick = method_no 64 in
    let note = method_no 65 in
    Stmt.Need (row_no p.from) (pos p.amount)
    ∷ Stmt.Add (row_no p.from) (neg_ℤ (pos p.amount))
    ∷ Stmt.Add (row_no p.to) (pos p.amount)
    ∷ tried pick
    ∷ tried note
    ∷ Stmt.Publish paid
    ∷ []

abbrev pub method_of : BeanNo → List ℕ → List Stmt → Method
method_of bean name body = record { bean = bean; name = name; tx = None; body = body }

-- a method of the shop
abbrev pub payment_method : ℕ → Payment → Method
payment_method t p = method_of (bean_no 0) (codes "t" ++ two_digits t) (payment_body p)

-- each payment takes three draws, the first of all from the seed
abbrev pub payments : ℕ → List Method
payments seed = map (λ t. payment_method t (payment (after seed (3 * t)))) (range_with_len 0 64)

-- stock.pick, audit.note and audit.mail
abbrev pub helpers : List Method
helpers =
    let stock = row_no 16 in
    let audit = row_no 17 in
    let mails = row_no 18 in
    method_of (bean_no 1) (codes "pick") (Stmt.Need stock (pos 1) ∷ Stmt.Add stock (neg_ℤ (pos 1)) ∷ [])
    ∷ method_of (bean_no 2) (codes "note") (Stmt.Add audit (pos 1) ∷ [])
    ∷ method_of (bean_no 2) (codes "mail") (Stmt.Add mails (pos 1) ∷ [])
    ∷ []

-- each payment that is committed is mailed
abbrev pub listeners : List Listener
listeners = record {
  name = codes "mail";
  event = paid;
  phase = Phase.AfterCommit;
  order = pos 2147483647;
  fallback = false;
  body = Stmt.Call (method_no 66) None ∷ [];
} ∷ []

-- ---- what clients call, and the schedule

-- eight payments, each a draw of all of them
abbrev pub calls_from : ℕ → List MethodNo
calls_from x = map (λ n. method_no (draw (after x n) 64)) (range_with_len 0 8)

-- after the 192 draws of all payments, each client takes eight
abbrev pub calls_of_clients : ℕ → ℕ → List (List MethodNo)
calls_of_clients seed clients = map (λ c. calls_from (after seed (192 + 8 * c))) (range_with_len 0 clients)

-- and each turn of the schedule one after those
abbrev pub turns : ℕ → ℕ → List ℕ
turns seed clients = map (λ n. draw (after seed (192 + 8 * clients + n)) clients) (range_with_len 0 (200 * clients))

-- ---- the whole

abbrev pub settings_for : ℕ → Settings
settings_for clients = record { pool = min 64 (clients + 1); mode = SyncMode.Always; nested = true }

unfoldable pub generated : ℕ → ℕ → Scenario
generated seed clients = record {
  settings = settings_for clients;
  events = codes "paid" ∷ [];
  schedule = turns seed clients;
  row_names = row_names;
  values = first_values;
  classes = built_in;
  beans = beans;
  methods = payments seed ++ helpers;
  syncs = [];
  listeners = listeners;
  clients = calls_of_clients seed clients;
}
