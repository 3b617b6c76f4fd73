use Rattle.shape_plan.specs.Worked.Requests.{requests_of_directions, requests_of_users, requests_of_hooks, texts_of_hooks}
use Rattle.shape_plan.proofs.worked.requests_meet_worked_cases.Goals as goal

pub returns : goal.returns
returns c = record { directions = requests_of_directions; users = requests_of_users; hooks = requests_of_hooks; texts = texts_of_hooks }
